use Rattle.std.proofs.Common.{◌≡◌, ◌≤◌, ◌-◌, ◌*◌, ◌^◌, max, drop}
use Rattle.std.specs.List.{flat_map}
use Rattle.clock27.specs.Units.{slot_units_at_1bps}
use Rattle.es_moments.specs.UnitRuns.{greatest_over, steps_of}
use Rattle.es_moments.proofs.unit_runs.UnitRuns.burst_packets.Given as goal

abbrev pub invariant-loop-run : goal.invariant-loop-run
invariant-loop-run g l = record {
  greatest : greatest_over l.pace 0 l.self.steps ≡ max l.greatest
      (greatest_over l.pace l.level (flat_map steps_of (drop l.run-index l.self-inside.runs.items)));
  bound : l.greatest ≤ (2 ^ 64 - 1) * slot_units_at_1bps;
  level : l.level ≤ (2 ^ 64 - 1) * slot_units_at_1bps;
}
