use Rattle.std.proofs.Common.{arith, ap}
use Rattle.std.proofs.lemmas.List.{drop_all}
use Rattle.plan_maker.specs.PlainPlan.{longest}
use Rattle.plan_maker.proofs.SpacingOrder.{longest_next}
use Rattle.plan_maker.proofs.item_order.longest.Goals as goal

pub loop-item-preserved : goal.loop-item-preserved
loop-item-preserved c =
    longest_next c.args.items.now c.loop-item.item-index _ c.loop-item.longest _ _ c.loop-item-test.true c.max-longest.ensures c.loop-item.invariant

pub returns : goal.returns
returns c =
    let over = ap longest (drop_all c.loop-item.item-index c.args.items.now (omega arith)) in
    omega (arith, over, c.loop-item.invariant)
