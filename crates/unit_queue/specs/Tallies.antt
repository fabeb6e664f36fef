-- The packets of accepted units that a queue counts, to judge the packets of the next unit.
use Rattle.std.specs.Prelude.{ℕ, ◌+◌, ◌-◌, ◌*◌, nat_lt, Bool, List, [], ◌∷◌, ◌++◌, map, sum}
use Rattle.circular_buffer.specs.Buffer.{keep_last}
use Rattle.clock27.specs.Units.{slot_units_at_1bps}
use Rattle.unit_timing.specs.declared.allowance.Allowance.{Allowance}
use Rattle.unit_timing.specs.declared.allowance.Allowance.TheVariants.{Groups, Pace}
use Rattle.unit_timing.specs.PesPacket.{PesPacket, packets_of_unit}
use Rattle.unit_timing.specs.Allowances.{allowance_rows}
use Rattle.unit_timing.specs.Levels.{next_level, level}

-- the packets of each of the last `span` units, which share a group with the next unit, and the level of a stream by pace
pub record Tally : Type 0 where
  pub recent : List ℕ
  pub span : ℕ
  pub level : ℕ

abbrev pub empty_tally : Allowance → Tally
empty_tally a = record { recent = []; span = allowance_rows a - 1; level = 0 }

-- a further unit has more packets than are allowed, if the unit before is due at `last`
abbrev pub exceeds : Allowance → Tally → ℕ → PesPacket → Bool
exceeds (Groups g most) t last unit = nat_lt most (sum t.recent + packets_of_unit unit)
exceeds (Pace burst pace) t last unit = nat_lt (burst * slot_units_at_1bps) (next_level pace t.level last unit)

-- the level with this unit; a stream by groups has no level
abbrev pub level_with : Allowance → Tally → ℕ → PesPacket → ℕ
level_with (Groups g most) t last unit = 0
level_with (Pace burst pace) t last unit = next_level pace t.level last unit

-- the tally with this unit
abbrev pub counted : Allowance → Tally → ℕ → PesPacket → Tally
counted a t last unit = record t { recent = keep_last t.span (t.recent ++ packets_of_unit unit ∷ []); level = level_with a t last unit }

-- the level and the tally of all units so far
abbrev pub level_of : Allowance → List PesPacket → ℕ
level_of (Groups g most) units = 0
level_of (Pace burst pace) units = level pace units

abbrev pub tally_of : Allowance → List PesPacket → Tally
tally_of a units = record { recent = keep_last (allowance_rows a - 1) (map packets_of_unit units); span = allowance_rows a - 1; level = level_of a units }
