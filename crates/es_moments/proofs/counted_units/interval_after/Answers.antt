use Rattle.std.proofs.Common.{get_or, refl, arith}
use Rattle.es_moments.proofs.UnitWeights.{none, interval_more, interval_end, interval_most}
use Rattle.es_moments.proofs.counted_units.interval_after.Goals as goal

pub loop-weight-init : goal.loop-weight-init
loop-weight-init c = record { least = omega (arith, interval_most c.args.before c.args.weights.now); bound = omega arith }

pub loop-weight-preserved : goal.loop-weight-preserved
loop-weight-preserved c =
    let one = get_or c.args.weights.now c.loop-weight.weight-index none in
    record {
      least = omega (
        arith,
        c.loop-weight.invariant.least,
        interval_more c.loop-weight.weight-index c.loop-weight.last c.args.weights.now one c.loop-weight-test.true refl,
        c.saturating_sub.ensures,
        c.shorter-least.ensures,
      );
      bound = omega (arith, c.loop-weight.invariant.bound, c.shorter-least.ensures);
    }

pub returns-clause-value : goal.returns-clause-value
returns-clause-value c = omega (
  arith,
  c.loop-weight.invariant.least,
  c.loop-weight.invariant.bound,
  interval_end c.loop-weight.weight-index c.loop-weight.last c.args.weights.now c.loop-weight-test.false,
)
