use Rattle.std.proofs.Common.{◌≡◌, ◌≤◌, min, drop}
use Rattle.es_moments.specs.Declaration.{interval_after}
use Rattle.es_moments.proofs.declaration.interval_after.Given as goal

abbrev pub invariant-loop-unit : goal.invariant-loop-unit
invariant-loop-unit g l = record {
  least : interval_after l.before l.units ≡ min l.least (interval_after l.last (drop l.unit-index l.units));
  bound : l.least ≤ 90_000;
}
