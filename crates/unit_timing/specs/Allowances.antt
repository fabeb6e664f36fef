-- The number of packets that a stream declares, as an allowance, a function of time: the most packets of units in a row when the
-- last of these units is due `time` units of 90 kHz after the first.
use Rattle.std.specs.Prelude.{ℕ, suc, ◌+◌, ◌-◌, ◌*◌, ◌/◌, ◌%◌, ◌<◌, ◌≤◌, min, List, [], ◌∷◌}
use Rattle.clock27.specs.Units.{slot_units_at_1bps}
use Rattle.unit_timing.specs.declared.allowance.Allowance.{Allowance}
use Rattle.unit_timing.specs.declared.allowance.Allowance.TheVariants.{Groups, Pace}
use Rattle.unit_timing.specs.PesPacket.{PesPacket, packets_of_unit, Spaced, Sized, GroupsWithin, grouped}

-- ---- functions of time

-- groups of g units with at most `most` packets, of units that are due at least `apart` after one another and have at
-- most n packets each: whole groups, and the last one filled by one unit to all
abbrev pub group_curve : ℕ → ℕ → ℕ → ℕ → ℕ → ℕ
group_curve g most n apart time = time / apart / g * most + min (suc (time / apart % g) * n) most

-- a burst of packets, and the packets that `pace` bits a second carry in that time: whole packets of 188 bytes
abbrev pub pace_curve : ℕ → ℕ → ℕ → ℕ
pace_curve burst pace time = burst + pace * time / slot_units_at_1bps

-- bytes in place of packets: units of at most `largest` bytes
abbrev pub size_curve : ℕ → ℕ → ℕ → ℕ
size_curve largest apart time = suc (time / apart) * largest

-- the function of a declaration, for units of at most n packets with `apart` from one stamp to the next
abbrev pub curve : Allowance → ℕ → ℕ → ℕ → ℕ
curve (Groups g most) n apart time = group_curve g most n apart time
curve (Pace burst pace) n apart time = pace_curve burst pace time

-- ---- units within an allowance, if a unit counts f: its packets, or its bytes

-- from a unit that is due at `first` on, with `sent` counted before these: up to each unit as many as are allowed
unfoldable pub Runs : (PesPacket → ℕ) → (ℕ → ℕ) → ℕ → ℕ → List PesPacket → Type 0
Runs f allowed first sent [] = Unit {0}
Runs f allowed first sent (unit ∷ units) = (sent + f unit ≤ allowed (unit.dts - first)) × Runs f allowed first (sent + f unit) units

-- the same from each unit on
unfoldable pub Allows : (PesPacket → ℕ) → (ℕ → ℕ) → List PesPacket → Type 0
Allows f allowed [] = Unit {0}
Allows f allowed (unit ∷ units) = Runs f allowed unit.dts 0 (unit ∷ units) × Allows f allowed units

-- the allowance's condition on each list of units: on their groups, or on their pace
abbrev pub KeepsAllowance : Allowance → ℕ → List PesPacket → Type 0
KeepsAllowance (Groups g most) n units = GroupsWithin g most n units
KeepsAllowance (Pace burst pace) n units = Allows packets_of_unit (pace_curve burst pace) units

-- ---- the numbers of a declaration that the conditions compare

-- the numbers of units in a row, from 1 on, for which the lead has to pay
abbrev pub allowance_rows : Allowance → ℕ
allowance_rows (Groups g most) = g
allowance_rows (Pace burst pace) = 1

-- the most packets of m units in a row
abbrev pub packets_at_once : Allowance → ℕ → ℕ → ℕ
packets_at_once (Groups g most) n m = min (m * n) most
packets_at_once (Pace burst pace) n m = burst

-- the long-run rate, as packets over time: a number of packets, times the units of 90 kHz in which one packet is carried at 1 bit a
-- second, over units of 90 kHz
abbrev pub steady_packets : Allowance → ℕ
steady_packets (Groups g most) = most * slot_units_at_1bps
steady_packets (Pace burst pace) = pace

abbrev pub steady_time : Allowance → ℕ → ℕ
steady_time (Groups g most) apart = g * apart
steady_time (Pace burst pace) apart = 1

-- the most packets of units that are due within less than `lead` of one another, which are at most `units`
abbrev pub packets_within : Allowance → ℕ → ℕ → ℕ → ℕ
packets_within (Groups g most) n units lead = grouped g most n units
packets_within (Pace burst pace) n units lead = burst + pace * lead / slot_units_at_1bps

-- ---- a declaration is an allowance

-- a function that never falls
abbrev pub IsRising : (ℕ → ℕ) → Type 0
IsRising allowed = (early late : ℕ) → early ≤ late → allowed early ≤ allowed late

-- units that keep a declaration keep its function of time, and sizes give a function too; neither function ever falls
pub record AllowanceLaw : Type 0 where
  pub kept : (a : Allowance) (n apart from : ℕ) (units : List PesPacket) → 0 < allowance_rows a → 0 < apart → Spaced apart from units →
      KeepsAllowance a n units →
      Allows packets_of_unit (curve a n apart) units
  pub sized : (largest apart from : ℕ) (units : List PesPacket) → 0 < apart → Spaced apart from units → Sized largest units →
      Allows (λ unit. unit.size) (size_curve largest apart) units
  pub rises : (a : Allowance) (n apart : ℕ) → 0 < allowance_rows a → 0 < apart → IsRising (curve a n apart)
  pub sizes_rise : (largest apart : ℕ) → 0 < apart → IsRising (size_curve largest apart)
