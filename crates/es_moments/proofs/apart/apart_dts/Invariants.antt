use Rattle.std.proofs.Common.{◌≡◌, ◌≤◌, ◌++◌, drop}
use Rattle.es_moments.specs.ApartUnits.{apart_dts}
use Rattle.es_moments.proofs.apart.apart_dts.Given as goal

abbrev pub invariant-loop-at : goal.invariant-loop-at
invariant-loop-at g l = record {
  all : apart_dts 0 l.found ≡ l.dts.items ++ apart_dts l.place (drop l.at l.found);
  few : l.place ≤ 63;
}
