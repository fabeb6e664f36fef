use Rattle.std.proofs.Common.{◌≡◌, ◌∙◌, ℕ, [], drop, ap, rules}
use Rattle.std.proofs.lemmas.List.{drop_all}
use Rattle.std.proofs.lemmas.List.Elements.{All-push}
use Rattle.es_moments.specs.CountedUnits.{IsWeight, weights}
use Rattle.es_moments.specs.UnitMoments.{units_at}
use Rattle.es_moments.proofs.UnitMoments.{at_short, at_end}
use Rattle.es_moments.proofs.UnitWeights.{found_next, found_end}
use Rattle.es_moments.proofs.unit_weights.found_weights.Goals as goal

pub loop-unit-preserved : goal.loop-unit-preserved
loop-unit-preserved g c = record {
  weights = λ id. found_next id c.args.base0 c.loop-unit.unit-index c.loop-unit.later.now c.in-Some.rest.now c.in-Some.moment.now c.args.found.now
      c.unit-item.result
      (weights id c.args.base0 (units_at c.args.moments.now c.args.found.now)) c.loop-unit.weights.items c.push.new.self.items c.in_ok-weight.weight
      c.loop-unit-test.true c.unit-item.is c.in-Some.ensures.cases.0 (c.in_ok-weight.ensures.value id) c.in_ok-push.ensures.items
      (c.loop-unit.invariant.weights id);
  bound = rw c.in_ok-push.ensures.items
      (All-push IsWeight c.loop-unit.weights.items c.in_ok-weight.weight c.loop-unit.invariant.bound c.in_ok-weight.ensures.bound);
}

pub returns-in_default-clause-weights : goal.returns-in_default-clause-weights
returns-in_default-clause-weights g c = λ id.
    found_end id c.args.base0 (units_at c.loop-unit.later.now (drop c.loop-unit.unit-index c.args.found.now))
    (weights id c.args.base0 (units_at c.args.moments.now c.args.found.now)) c.loop-unit.weights.items
    (at_short c.loop-unit.later.now (drop c.loop-unit.unit-index c.args.found.now) c.in_default.ensures.cases) (c.loop-unit.invariant.weights id)

pub returns-clause-weights : goal.returns-clause-weights
returns-clause-weights g c = λ id.
    found_end id c.args.base0 (units_at c.loop-unit.later.now (drop c.loop-unit.unit-index c.args.found.now))
    (weights id c.args.base0 (units_at c.args.moments.now c.args.found.now)) c.loop-unit.weights.items
    (at_end c.loop-unit.later.now (drop c.loop-unit.unit-index c.args.found.now) (drop_all c.loop-unit.unit-index c.args.found.now c.loop-unit-test.false))
    (c.loop-unit.invariant.weights id)
