-- What the packets of a stream carry.
use Rattle.std.specs.Prelude.{◌≡◌, ◌≤◌, ℕ, ◌+◌, ◌*◌, ◌%◌, ◌==◌, nat_eq, Bool, true, false, Option, Some, None, List, [], ◌∷◌, length, map, take, replicate}
use Rattle.std.specs.Prelude.{slice_get}
use Rattle.std.specs.List.{concat, flat_map, starts_with}
use Rattle.clock27.specs.Units.{slot_units_at_1bps}
use Rattle.own_slots.specs.Slots.{own_before, own_slots}
use Rattle.pes_packet.specs.AccessUnits.{AccessUnit}
use Rattle.pes_packet.specs.Payloads.{unit_pieces}
use Rattle.ts_packet.specs.declared.start.Start.{Start}
use Rattle.ts_packet.specs.declared.start.Start.TheVariants.{Continues}
use Rattle.ts_packet.specs.Beginnings.{start_by}
use Rattle.unit_timing.specs.Schedule.{packets_in_slots}
use Rattle.ts_packet.specs.PidList.{Entry, is_of_pid, pid_list, payload_of, payloads_on}
use Rattle.slot_contents.specs.Contents.{Content, view_of, Payload, payload_at, Piece, put}
use Rattle.slot_contents.specs.RunLaws.{Fits}
use Rattle.unit_queue.specs.OwnedStreams.{OwnedStream, pes_bytes, has_access, timed, packet_count}
use Rattle.unit_queue.specs.Places.{UnitPlace, place_at, piece_bytes, piece_start, stream_content}

-- the payloads of a PES packet; it begins in the first payload
unfoldable pub marked : Start → List (List ℕ) → List Piece
marked start [] = []
marked start (bytes ∷ rest) = record { start = start; bytes = bytes } ∷ marked Continues rest

-- the payloads of a PES packet, which may be a random access point
abbrev pub pes_pieces : Bool → List ℕ → List Piece
pes_pieces access pes = marked (start_by true access) (unit_pieces access pes)

-- all payloads of a stream's units, in order, and the unit of each
abbrev pub all_pieces : OwnedStream → List AccessUnit → List Piece
all_pieces l us = flat_map (λ u. pes_pieces (has_access u) (pes_bytes l u)) us

abbrev pub all_senders : OwnedStream → List AccessUnit → List AccessUnit
all_senders l us = flat_map (λ u. replicate (packet_count l u) u) us

-- a payload without the number of its slot
abbrev pub piece_in : Payload → Piece
piece_in p = record { start = p.start; bytes = p.bytes }

-- the payload in the place of an own slot, and the payloads of n slots
abbrev pub piece_of : OwnedStream → Option UnitPlace → Option Piece
piece_of l None = None
piece_of l (Some x) = Some (record { start = piece_start x; bytes = piece_bytes l x })

abbrev pub stream_payloads : OwnedStream → List AccessUnit → ℕ → List Payload
stream_payloads l us n = flat_map (λ s. put s (piece_of l (place_at l 0 0 us (own_before l.own s)))) (own_slots l.own 0 n)

-- the slot of a payload does not begin before its unit's DTS less the lead
abbrev pub IsReleased : OwnedStream → AccessUnit → ℕ → Type 0
IsReleased l u slot = u.dts * l.parameters.rate ≤ slot * slot_units_at_1bps + l.parameters.lead * l.parameters.rate

-- what the finished bytes of n slots carry of the units of a stream
pub record StreamCarried (l : OwnedStream) (us : List AccessUnit) (n : ℕ) (bytes : List ℕ) : Type 0 where
  -- packet number j of the PID has the continuity_counter j modulo 16 (ISO/IEC 13818-1, 2.4.3.3)
  pub counters : (j : ℕ) (e : Entry) → slice_get (pid_list l.parameters.pid bytes) j ≡ Some e → e.packet.header.continuity_counter ≡ j % 16
  -- the payloads are the first payloads of the units: each belongs to a single unit, and has the start indicator where a unit begins, with the
  -- random_access_indicator exactly if a decoder may begin with the unit
  pub pieces : map (λ e. piece_in (payload_at e)) (pid_list l.parameters.pid bytes) ≡ take (length (pid_list l.parameters.pid bytes)) (all_pieces l us)
  -- joined they are a beginning of the units' PES packets
  pub joined : starts_with nat_eq (concat (map (pes_bytes l) us)) (payloads_on l.parameters.pid bytes) ≡ true
  -- no payload is sent early
  pub released : (j : ℕ) (e : Entry) (u : AccessUnit) → slice_get (pid_list l.parameters.pid bytes) j ≡ Some e → slice_get (all_senders l us) j ≡ Some u →
      IsReleased l u e.index
  -- they are the packets in the model of timing
  pub packets : map (λ e. record { slot = e.index; size = length (payload_of e.packet) }) (pid_list l.parameters.pid bytes)
      ≡ packets_in_slots l.own l.parameters.rate l.parameters.lead 0 (map (timed l) us) (own_slots l.own 0 n)

-- an output where the stream is alone on its PID
pub record StreamIsAlone (l : OwnedStream) (us : List AccessUnit) (content : ℕ → Content) : Type 0 where
  pub fits : Fits content
  pub no_null : (l.parameters.pid == 8191) ≡ false
  pub own : (t : ℕ) → l.own t ≡ true → content t ≡ stream_content l us t
  pub others : (t : ℕ) → l.own t ≡ false → is_of_pid l.parameters.pid (view_of (content t)) ≡ false
