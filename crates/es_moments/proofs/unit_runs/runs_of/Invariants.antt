use Rattle.std.proofs.Common.{◌≡◌, ◌++◌, All, drop}
use Rattle.std.specs.List.{flat_map}
use Rattle.es_moments.specs.CountedUnits.{weighed_steps}
use Rattle.es_moments.specs.UnitRuns.{IsRun, steps_of}
use Rattle.es_moments.proofs.unit_runs.runs_of.Given as goal

abbrev pub invariant-loop-weight : goal.invariant-loop-weight
invariant-loop-weight g l = record {
  steps : weighed_steps 0 l.weights ≡ (flat_map steps_of l.runs.items ++ steps_of l.run) ++ weighed_steps l.last (drop l.weight-index l.weights);
  run : IsRun l.run;
  runs : All IsRun l.runs.items;
}
