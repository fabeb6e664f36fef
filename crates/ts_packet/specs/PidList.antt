-- The packets of a byte stream, and its packets of one PID.
use Rattle.std.specs.Prelude.{ℕ, ◌/◌, ◌==◌, ◌&&◌, not, Bool, List, [], length, map, filter, Option, Some, None, unwrap_or, Result, Ok, Err}
use Rattle.std.specs.List.{concat, enumerate_from, filter_map}
use Rattle.std.specs.Simd.{first_chunks}
use Rattle.ts_packet.specs.declared.packet.PacketError.{PacketError}
use Rattle.ts_packet.specs.Views.{PacketView}
use Rattle.ts_packet.specs.Reading.{packet_at}

-- the whole packets of a byte stream: it is cut by 188 from its first byte on
abbrev pub cut_packets : List ℕ → List (List ℕ)
cut_packets bytes = first_chunks 188 (length bytes / 188) bytes

-- a packet of a byte stream: its index, its 188 bytes and the packet that they encode
pub record Entry : Type 0 where
  pub index : ℕ
  pub bytes : List ℕ
  pub packet : PacketView

-- the packet at an index, if its bytes are one
unfoldable pub entry_of : ℕ → List ℕ → Result PacketView PacketError → Option Entry
entry_of index bytes (Ok packet) = Some (record { index = index; bytes = bytes; packet = packet })
entry_of index bytes (Err _) = None

-- the packets that can be read
abbrev pub entries_of : List ℕ → List Entry
entries_of bytes = filter_map (λ p. entry_of p.0 p.1 (packet_at p.1)) (enumerate_from 0 (cut_packets bytes))

-- a packet of this PID that is not known to be wrong
abbrev pub is_of_pid : ℕ → PacketView → Bool
is_of_pid pid packet = (packet.header.pid == pid) && not packet.header.transport_error_indicator

-- the PID list: the packets of a PID in their order, each with its index
abbrev pub pid_list : ℕ → List ℕ → List Entry
pid_list pid bytes = filter (λ entry. is_of_pid pid entry.packet) (entries_of bytes)

-- the payload of a packet, no bytes if it has none
abbrev pub payload_of : PacketView → List ℕ
payload_of packet = unwrap_or packet.payload []

-- the payloads of a PID in a byte stream, joined
abbrev pub payloads_on : ℕ → List ℕ → List ℕ
payloads_on pid bytes = concat (map (λ entry. payload_of entry.packet) (pid_list pid bytes))
