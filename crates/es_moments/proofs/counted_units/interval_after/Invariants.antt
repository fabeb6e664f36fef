use Rattle.std.proofs.Common.{◌≡◌, ◌≤◌, min, drop}
use Rattle.es_moments.specs.CountedUnits.{weighed_after}
use Rattle.es_moments.proofs.counted_units.interval_after.Given as goal

abbrev pub invariant-loop-weight : goal.invariant-loop-weight
invariant-loop-weight l = record {
  least : weighed_after l.before l.weights ≡ min l.least (weighed_after l.last (drop l.weight-index l.weights));
  bound : l.least ≤ 90_000;
}
