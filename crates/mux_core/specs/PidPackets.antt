-- The packets of units on one PID.
use Rattle.std.specs.Prelude.{ℕ, ◌+◌, ◌%◌, true, List, [], ◌∷◌, ◌++◌, length}
use Rattle.ts_packet.specs.declared.start.Start.{Start}
use Rattle.ts_packet.specs.declared.start.Start.TheVariants.{Continues}
use Rattle.ts_packet.specs.Beginnings.{start_by}
use Rattle.ts_packet.specs.Packets.{payload_packet}
use Rattle.pes_packet.specs.AccessUnits.{AccessUnit}
use Rattle.pes_packet.specs.Encoding.{pes_packet_bytes}
use Rattle.pes_packet.specs.Marks.{field_size}
use Rattle.pes_packet.specs.Payloads.{piece_count, unit_pieces}
use Rattle.unit_queue.specs.OwnedStreams.{has_access}

-- the packets of payloads on one PID: the first packet has this start and this number on its PID, and the numbers of later packets follow; the continuity
-- counter is the number modulo 16
unfoldable pub payload_packets : ℕ → Start → ℕ → List (List ℕ) → List (List ℕ)
payload_packets pid start number [] = []
payload_packets pid start number (piece ∷ pieces) = payload_packet pid start (number % 16) piece ∷ payload_packets pid Continues (number + 1) pieces

-- the packets of one unit, whose first packet has this number on its PID; time stamps are written as given
abbrev pub unit_packets : ℕ → ℕ → ℕ → AccessUnit → List (List ℕ)
unit_packets pid id number unit = payload_packets pid (start_by true (has_access unit)) number (unit_pieces (has_access unit) (pes_packet_bytes id 0 unit))

-- the number of packets of one unit
abbrev pub unit_count : ℕ → AccessUnit → ℕ
unit_count id unit = piece_count (field_size (has_access unit) + length (pes_packet_bytes id 0 unit))

-- the packets of units in order
unfoldable pub stream_packets : ℕ → ℕ → ℕ → List AccessUnit → List (List ℕ)
stream_packets pid id number [] = []
stream_packets pid id number (unit ∷ units) = unit_packets pid id number unit ++ stream_packets pid id (number + unit_count id unit) units
