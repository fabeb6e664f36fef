-- What the laws of this crate say.
use Rattle.std.specs.Prelude.{◌≡◌, ℕ, ◌^◌, ◌<◌, ◌≤◌, List, [], ◌∷◌, ◌++◌, length, map, All, false, Ok, ⊤}
use Rattle.clock27.specs.Reference.{Reference}
use Rattle.ts_packet.specs.declared.start.Start.{Start}
use Rattle.ts_packet.specs.Views.{PacketView}
use Rattle.ts_packet.specs.Beginnings.{is_access, room_of, start_in}
use Rattle.ts_packet.specs.Syntax.{IsPacket, ReferenceFits}
use Rattle.ts_packet.specs.Reading.{packet_at}
use Rattle.ts_packet.specs.Writing.{packet_bytes, PacketFits}
use Rattle.ts_packet.specs.Packets.{stuffing_field, field_of, payload_view, payload_packet, pcr_view, pcr_packet, null_view, null_packet, packets}
use Rattle.ts_packet.specs.Packets.{payload_views}
use Rattle.ts_packet.specs.PidList.{cut_packets, pid_list}

-- the bytes of a packet say one thing, and it is read
abbrev pub ReadOnce : Type 0
ReadOnce = (bytes : List ℕ) (packet : PacketView) → IsPacket bytes packet → packet_at bytes ≡ Ok packet

-- what can be written is written in 188 bytes, which say it, and is read again
pub record ReadAgain (bytes : List ℕ) (packet : PacketView) : Type 0 where
  pub size : length bytes ≡ 188
  pub says : IsPacket bytes packet
  pub read : packet_at bytes ≡ Ok packet

abbrev pub PacketsAgain : Type 0
PacketsAgain = (packet : PacketView) → PacketFits packet → ReadAgain (packet_bytes packet) packet

abbrev pub PayloadsAgain : Type 0
PayloadsAgain = (pid : ℕ) (start : Start) (counter : ℕ) (payload : List ℕ) → pid < 2 ^ 13 → counter < 2 ^ 4 → 0 < length payload →
    length payload ≤ room_of start
    → ReadAgain (payload_packet pid start counter payload) (payload_view pid start counter payload)

-- what begins with a payload is read again from its packet
abbrev pub StartAgain : Type 0
StartAgain = (pid : ℕ) (start : Start) (counter : ℕ) (payload : List ℕ) → start_in (payload_view pid start counter payload) ≡ start

-- a payload where no decoder may begin has only stuffing before it
abbrev pub WithoutAccess : Type 0
WithoutAccess = (start : Start) (n : ℕ) → is_access start ≡ false → field_of start n ≡ stuffing_field n

abbrev pub PcrsAgain : Type 0
PcrsAgain = (pid : ℕ) (pcr : Reference) → pid < 2 ^ 13 → ReferenceFits pcr → ReadAgain (pcr_packet pid pcr) (pcr_view pid pcr)

abbrev pub NullAgain : Type 0
NullAgain = ReadAgain null_packet null_view

-- a piece that can be the payload of a packet
abbrev pub IsPiece : List ℕ → Type 0
IsPiece piece = (0 < length piece) × (length piece ≤ 184)

-- the first of pieces leaves room for what begins there
abbrev pub FirstFits : Start → List (List ℕ) → Type 0
FirstFits start [] = ⊤
FirstFits start (piece ∷ pieces) = length piece ≤ room_of start

-- the packets of pieces on one PID are that PID's list: the pieces in order, what begins on the first alone, and counters that go up by
-- one modulo 16
abbrev pub PiecesListed : Type 0
PiecesListed = (pid : ℕ) (start : Start) (number : ℕ) (pieces : List (List ℕ)) → pid < 2 ^ 13 → All IsPiece pieces → FirstFits start pieces
    → map (λ entry. entry.packet) (pid_list pid (packets pid start number pieces)) ≡ payload_views pid start number pieces

-- a whole packet in front is cut off
abbrev pub FirstCut : Type 0
FirstCut = (packet bytes : List ℕ) → length packet ≡ 188 → cut_packets (packet ++ bytes) ≡ packet ∷ cut_packets bytes
