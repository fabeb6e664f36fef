use Rattle.std.proofs.Common.{◌≡◌, ◌≤◌, min, drop}
use Rattle.job_units.specs.FrameRests.{rest_after}
use Rattle.job_units.proofs.frame_rests.rest_after.Given as goal

abbrev pub invariant-loop-unit : goal.invariant-loop-unit
invariant-loop-unit l = record {
  least : rest_after l.kind l.time l.due l.units ≡ min l.least (rest_after l.kind l.time l.last (drop l.unit-index l.units));
  bound : l.least ≤ 90_000;
}
