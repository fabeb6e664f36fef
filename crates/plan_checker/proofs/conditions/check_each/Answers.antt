use Rattle.std.proofs.Common.{◌<◌, ◌≤◌, ◌∙◌, length, rules, sym}
use Rattle.plan_checker.proofs.FailingSearch.{all_gone, ends_here, from_number, goes_on}
use Rattle.plan_checker.proofs.conditions.check_each.Goals as goal

pub returns-then-is_done : goal.returns-then-is_done
returns-then-is_done g c =
    ends_here c.loop-i.search _ (from_number (g.C.ItemCondition.entries c.args.plans.now) (g.C.ItemCondition.items c.args.plans.now) c.loop-i.i)
    c.loop-i.invariant (sym c.is_done.ensures ∙ c.if-is_done.true)

pub loop-i-preserved : goal.loop-i-preserved
loop-i-preserved g c =
    let lt : c.loop-i.i < length (g.C.ItemCondition.items c.args.plans.now) = search rules in
    goes_on (g.C.ItemCondition.entries c.args.plans.now) (g.C.ItemCondition.items c.args.plans.now) c.loop-i.i _ _ _ c.loop-i.invariant lt c.check_item.ensures

pub returns : goal.returns
returns g c =
    let le : length (g.C.ItemCondition.items c.args.plans.now) ≤ c.loop-i.i = search rules in
    all_gone (g.C.ItemCondition.entries c.args.plans.now) (g.C.ItemCondition.items c.args.plans.now) c.loop-i.i _ _ c.loop-i.invariant le
