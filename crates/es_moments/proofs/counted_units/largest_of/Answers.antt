use Rattle.std.proofs.Common.{get_or, refl, arith}
use Rattle.clock27.proofs.MinMax.{max_is}
use Rattle.es_moments.proofs.UnitWeights.{none, size_more, size_end}
use Rattle.es_moments.proofs.counted_units.largest_of.Goals as goal

pub loop-weight-preserved : goal.loop-weight-preserved
loop-weight-preserved c =
    let one = get_or c.args.weights.now c.loop-weight.weight-index none in
    record {
      greatest = omega (
        arith,
        c.loop-weight.invariant.greatest,
        size_more c.loop-weight.weight-index c.args.weights.now one c.loop-weight-test.true refl,
        c.max-greatest.ensures,
        max_is c.loop-weight.greatest one.size,
      );
      bound = omega (
        arith,
        c.loop-weight.invariant.bound,
        (c.requires c.loop-weight.weight-index none c.loop-weight-test.true).size,
        c.max-greatest.ensures,
        max_is c.loop-weight.greatest one.size,
      );
    }

pub returns-clause-value : goal.returns-clause-value
returns-clause-value c = omega (arith, c.loop-weight.invariant.greatest, size_end c.loop-weight.weight-index c.args.weights.now c.loop-weight-test.false)
