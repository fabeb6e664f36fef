use Rattle.std.proofs.Common.{◌≡◌, ◌≤◌, ◌*◌, min, drop}
use Rattle.plan_maker.specs.Bounded.{whole_product, product, most_wide}
use Rattle.plan_maker.proofs.search.numbers.product.Given as goal

abbrev pub invariant-loop-factor : goal.invariant-loop-factor
invariant-loop-factor l = record {
  small : l.product ≤ most_wide;
  product : min (l.product * whole_product (drop l.factor-index l.factors)) most_wide ≡ product l.factors;
}
