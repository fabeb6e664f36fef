-- Units that can be written as PES packets of a stream.
use Rattle.std.specs.Prelude.{ℕ, ◌==◌, ◌||◌, not, Bool, length}
use Rattle.pes_packet.specs.AccessUnits.{AccessUnit}
use Rattle.pes_packet.specs.StreamIds.{fits_packet}

-- a unit belongs to another stream, or fits into a PES packet of this stream_id
abbrev pub fits_of : ℕ → ℕ → ℕ × AccessUnit → Bool
fits_of number id unit = not (unit.0 == number) || fits_packet id (length unit.1.bytes)
