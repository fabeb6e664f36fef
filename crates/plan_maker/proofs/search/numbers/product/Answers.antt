use Rattle.std.proofs.Common.{arith}
use Rattle.plan_maker.specs.Bounded.{product}
use Rattle.plan_maker.proofs.BoundedProducts.{next_factor, all_factors}
use Rattle.plan_maker.proofs.search.numbers.product.Goals as goal

pub loop-factor-preserved : goal.loop-factor-preserved
loop-factor-preserved c = record {
  small = omega (arith, c.saturating_mul-product.ensures);
  product = next_factor c.args.factors.now c.loop-factor.factor-index _ c.loop-factor.product (product c.args.factors.now) c.saturating_mul-product.result
      c.loop-factor-test.true c.saturating_mul-product.ensures c.loop-factor.invariant.product;
}

pub returns : goal.returns
returns c =
    all_factors c.args.factors.now c.loop-factor.factor-index 0 c.loop-factor.product (product c.args.factors.now) c.loop-factor.invariant.small
    c.loop-factor-test.false c.loop-factor.invariant.product
