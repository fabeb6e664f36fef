use Rattle.std.proofs.Common.{ℕ}
use Rattle.std.proofs.lemmas.List.Elements.{All-push}
use Rattle.es_moments.specs.CountedUnits.{IsWeight}
use Rattle.es_moments.proofs.UnitWeights.{weight_more, weight_end}
use Rattle.es_moments.proofs.unit_weights.unit_weights.Goals as goal

pub loop-unit-preserved : goal.loop-unit-preserved
loop-unit-preserved g c = record {
  weights = λ id. weight_more id c.args.base0 c.loop-unit.unit-index c.args.units.now c.unit-item.result c.weight_of.result c.loop-unit.weights.items
      c.push.new.self.items
      c.loop-unit-test.true c.unit-item.is (c.weight_of.ensures.value id) (c.loop-unit.invariant.weights id) c.in_ok-push.ensures.items;
  bound = rw c.in_ok-push.ensures.items (All-push IsWeight c.loop-unit.weights.items c.weight_of.result c.loop-unit.invariant.bound c.weight_of.ensures.bound);
}

pub returns-clause-weights : goal.returns-clause-weights
returns-clause-weights g c = λ id.
    weight_end id c.args.base0 c.loop-unit.unit-index c.args.units.now c.loop-unit.weights.items c.loop-unit-test.false (c.loop-unit.invariant.weights id)
