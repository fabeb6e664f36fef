use Rattle.std.proofs.Common.{◌≡◌, ◌<◌, ◌+◌, ◌^◌, max, drop}
use Rattle.es_moments.specs.CountedUnits.{weighed_size}
use Rattle.es_moments.proofs.counted_units.largest_of.Given as goal

abbrev pub invariant-loop-weight : goal.invariant-loop-weight
invariant-loop-weight l = record {
  greatest : weighed_size l.weights ≡ max l.greatest (weighed_size (drop l.weight-index l.weights));
  bound : l.greatest < 2 ^ 63 + 28;
}
