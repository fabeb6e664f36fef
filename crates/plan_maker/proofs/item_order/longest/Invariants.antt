use Rattle.std.proofs.Common.{◌≡◌, max, drop}
use Rattle.plan_maker.specs.PlainPlan.{longest}
use Rattle.plan_maker.proofs.item_order.longest.Given as goal

abbrev pub invariant-loop-item : goal.invariant-loop-item
invariant-loop-item l = max l.longest (longest (drop l.item-index l.items)) ≡ longest l.items
