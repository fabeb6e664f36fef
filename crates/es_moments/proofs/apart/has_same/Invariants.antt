use Rattle.std.proofs.Common.{◌≡◌, drop}
use Rattle.es_moments.specs.ApartUnits.{has_same}
use Rattle.es_moments.proofs.apart.has_same.Given as goal

abbrev pub invariant-loop-at : goal.invariant-loop-at
invariant-loop-at g l = has_same l.found ≡ has_same (drop l.at l.found)
