use Rattle.std.proofs.Common.{◌≡◌, ◌≤◌, drop}
use Rattle.es_moments.specs.Stamps.{min_distance}
use Rattle.es_moments.proofs.stamps.min_distance.Given as goal

abbrev pub invariant-loop-stamp : goal.invariant-loop-stamp
invariant-loop-stamp l = record {
  least : min_distance l.from l.most l.stamps ≡ min_distance l.from l.least (drop l.stamp-index l.stamps);
  bound : l.least ≤ l.most;
}
