-- The units of a stream one after another: how long each is due after the one before, and its packets; and the levels that a pace
-- makes of them.
use Rattle.std.specs.Prelude.{ℕ, ◌+◌, ◌-◌, ◌*◌, ◌^◌, ◌≤◌, max, List, [], ◌∷◌, replicate}
use Rattle.std.specs.Int.{div_ceil}
use Rattle.clock27.specs.Units.{slot_units_at_1bps}
use Rattle.pes_packet.specs.AccessUnits.{AccessUnit}
use Rattle.unit_timing.specs.PesPacket.{PesPacket, packets_of_unit}
use Rattle.es_moments.specs.Declaration.{max_unit_packets, max_unit_size, timed_units}
use Rattle.es_moments.specs.declared.unit_runs.UnitRun.{UnitRun}

-- 1. Steps

pub record UnitStep : Type 0 where
  pub time : ℕ
  pub packets : ℕ

unfoldable pub steps_after : ℕ → List PesPacket → List UnitStep
steps_after last [] = []
steps_after last (unit ∷ units) = record { time = unit.dts - last; packets = packets_of_unit unit } ∷ steps_after unit.dts units

-- the steps of a run of equal units
abbrev pub step_of : UnitRun → UnitStep
step_of run = record { time = run.time; packets = run.packets }

abbrev pub steps_of : UnitRun → List UnitStep
steps_of run = replicate run.count (step_of run)

-- its units have no more packets than a unit in memory, and are few enough for their levels
pub record IsRun (run : UnitRun) : Type 0 where
  pub packets : run.packets ≤ 2 ^ 56
  pub count : run.count ≤ 65_536

-- 2. The steps of a stream, and the packets of a unit of the largest size

pub record UnitRunsView : Type 0 where
  pub steps : List UnitStep
  pub largest : ℕ

unfoldable pub unit_runs : ℕ → ℕ → List AccessUnit → UnitRunsView
unit_runs id base0 us = record { steps = steps_after 0 (timed_units id base0 us); largest = max_unit_packets (max_unit_size us) }

-- 3. The level of a pace after a step, after several, and the greatest after any of them

abbrev pub step_level : ℕ → ℕ → UnitStep → ℕ
step_level pace level s = (level - pace * s.time) + s.packets * slot_units_at_1bps

unfoldable pub level_over : ℕ → ℕ → List UnitStep → ℕ
level_over pace level [] = level
level_over pace level (s ∷ ss) = level_over pace (step_level pace level s) ss

unfoldable pub greatest_over : ℕ → ℕ → List UnitStep → ℕ
greatest_over pace level [] = 0
greatest_over pace level (s ∷ ss) = max (step_level pace level s) (greatest_over pace (step_level pace level s) ss)

-- the packets of the least burst that lets the units keep a pace
abbrev pub runs_burst : ℕ → UnitRunsView → ℕ
runs_burst pace runs = max runs.largest (div_ceil (greatest_over pace 0 runs.steps) slot_units_at_1bps)
