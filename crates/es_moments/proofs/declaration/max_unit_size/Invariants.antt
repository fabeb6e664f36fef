use Rattle.std.proofs.Common.{◌≡◌, ◌<◌, ◌+◌, ◌^◌, max, drop}
use Rattle.es_moments.specs.Declaration.{max_unit_size}
use Rattle.es_moments.proofs.declaration.max_unit_size.Given as goal

abbrev pub invariant-loop-unit : goal.invariant-loop-unit
invariant-loop-unit g l = record {
  greatest : max_unit_size l.units ≡ max l.greatest (max_unit_size (drop l.unit-index l.units));
  bound : l.greatest < 2 ^ 63 + 28;
}
