-- The units of a stream, and their PES packets.
use Rattle.std.specs.Prelude.{ℕ, ◌==◌, List, map, filter}
use Rattle.pes_packet.specs.AccessUnits.{AccessUnit}
use Rattle.pes_packet.specs.Encoding.{pes_packet_bytes}

-- the units of a stream in their order, of units each with the number of its stream
abbrev pub units_of : ℕ → List (ℕ × AccessUnit) → List AccessUnit
units_of stream units = map (λ u. u.1) (filter (λ u. u.0 == stream) units)

-- their PES packets, by the stream's stream_id and the clock's first value in units of 90 kHz
abbrev pub pes_packets_of : ℕ → ℕ → List AccessUnit → List (List ℕ)
pes_packets_of id base0 units = map (pes_packet_bytes id base0) units
