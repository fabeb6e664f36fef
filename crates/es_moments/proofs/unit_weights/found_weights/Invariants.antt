use Rattle.std.proofs.Common.{◌≡◌, ◌++◌, ℕ, All, drop}
use Rattle.es_moments.specs.CountedUnits.{IsWeight, weights}
use Rattle.es_moments.specs.UnitMoments.{units_at}
use Rattle.es_moments.proofs.unit_weights.found_weights.Given as goal

abbrev pub invariant-loop-unit : goal.invariant-loop-unit
invariant-loop-unit g l = record {
  weights : (id : ℕ) → weights id l.base0 (units_at l.moments l.found) ≡ l.weights.items ++ weights id l.base0 (units_at l.later (drop l.unit-index l.found));
  bound : All IsWeight l.weights.items;
}
