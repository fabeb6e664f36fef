-- The level of a leaky bucket: the packets of the units so far, less what the pace took off. It is counted in parts of
-- which a packet has 135,360,000, as many as bits a second times units of 90 kHz.
use Rattle.std.specs.Prelude.{◌≡◌, ℕ, ◌+◌, ◌-◌, ◌*◌, ◌<◌, ◌≤◌, max, Bool, false, nat_lt, List, [], ◌∷◌, ◌++◌}
use Rattle.clock27.specs.Units.{slot_units_at_1bps}
use Rattle.unit_timing.specs.declared.allowance.Allowance.{Allowance}
use Rattle.unit_timing.specs.declared.allowance.Allowance.TheVariants.{Groups, Pace}
use Rattle.unit_timing.specs.PesPacket.{PesPacket, packets_of_unit, Spaced, next_due, last_packets}
use Rattle.unit_timing.specs.Allowances.{pace_curve, Allows, KeepsAllowance, allowance_rows}

-- the level after a further unit, if the unit before it is due at `last`
abbrev pub next_level : ℕ → ℕ → ℕ → PesPacket → ℕ
next_level pace level last unit = (level - pace * (unit.dts - last)) + packets_of_unit unit * slot_units_at_1bps

-- after further units
unfoldable pub level_after : ℕ → ℕ → ℕ → List PesPacket → ℕ
level_after pace level last [] = level
level_after pace level last (unit ∷ units) = level_after pace (next_level pace level last unit) unit.dts units

-- when the last unit is due
unfoldable pub last_due : ℕ → List PesPacket → ℕ
last_due last [] = last
last_due last (unit ∷ units) = last_due unit.dts units

-- the greatest level after any unit
unfoldable pub greatest_after : ℕ → ℕ → ℕ → List PesPacket → ℕ
greatest_after pace level last [] = 0
greatest_after pace level last (unit ∷ units) =
    max (next_level pace level last unit) (greatest_after pace (next_level pace level last unit) unit.dts units)

-- the same for all units of a stream, which begins with an empty bucket
abbrev pub level : ℕ → List PesPacket → ℕ
level pace units = level_after pace 0 0 units

abbrev pub greatest_level : ℕ → List PesPacket → ℕ
greatest_level pace units = greatest_after pace 0 0 units

-- a further unit has more packets than are allowed after `units`: together with the last units of its group, or by the level
abbrev pub is_over : Allowance → List PesPacket → PesPacket → Bool
is_over (Groups g most) units unit = nat_lt most (last_packets (g - 1) units + packets_of_unit unit)
is_over (Pace burst pace) units unit = nat_lt (burst * slot_units_at_1bps) (next_level pace (level pace units) (last_due 0 units) unit)

-- units keep a pace exactly if its burst covers the greatest level that they make
pub record BurstLaw : Type 0 where
  pub more : (burst pace apart from : ℕ) (units : List PesPacket) → Spaced apart from units → greatest_level pace units ≤ burst * slot_units_at_1bps →
      Allows packets_of_unit (pace_curve burst pace) units
  pub back : (burst pace apart from : ℕ) (units : List PesPacket) → Spaced apart from units → Allows packets_of_unit (pace_curve burst pace) units →
      greatest_level pace units ≤ burst * slot_units_at_1bps
  pub level_le : (pace : ℕ) (units : List PesPacket) → level pace units ≤ greatest_level pace units

-- a further unit of at most n packets keeps the declaration exactly if it is not over; the level is computed from its last value,
-- and the last stamp is known from the least stamp that the next unit may have
pub record AllowanceMoreLaw : Type 0 where
  pub more : (a : Allowance) (n apart from : ℕ) (units : List PesPacket) (unit : PesPacket) → 0 < allowance_rows a → Spaced apart from (units ++ unit ∷ []) →
      KeepsAllowance a n units → packets_of_unit unit ≤ n → is_over a units unit ≡ false → KeepsAllowance a n (units ++ unit ∷ [])
  pub back : (a : Allowance) (n apart from : ℕ) (units : List PesPacket) (unit : PesPacket) → 0 < allowance_rows a → Spaced apart from (units ++ unit ∷ []) →
      KeepsAllowance a n (units ++ unit ∷ []) → KeepsAllowance a n units × (is_over a units unit ≡ false)
  pub next : (pace : ℕ) (units : List PesPacket) (unit : PesPacket) →
      level pace (units ++ unit ∷ []) ≡ next_level pace (level pace units) (last_due 0 units) unit
  pub greatest : (pace : ℕ) (units : List PesPacket) (unit : PesPacket) →
      greatest_level pace (units ++ unit ∷ []) ≡ max (greatest_level pace units) (next_level pace (level pace units) (last_due 0 units) unit)
  pub last : (apart : ℕ) (units : List PesPacket) → next_due apart 0 units - apart ≡ last_due 0 units
