use Rattle.std.proofs.Common.{◌≡◌, ℕ, All, take}
use Rattle.es_moments.specs.CountedUnits.{IsWeight, weights}
use Rattle.es_moments.proofs.unit_weights.unit_weights.Given as goal

abbrev pub invariant-loop-unit : goal.invariant-loop-unit
invariant-loop-unit g l = record {
  weights : (id : ℕ) → l.weights.items ≡ weights id l.base0 (take l.unit-index l.units);
  bound : All IsWeight l.weights.items;
}
