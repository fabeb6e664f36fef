use Rattle.std.proofs.Common.{◌≡◌}
use Rattle.plan_checker.specs.Failing.{after, search_of}
use Rattle.plan_checker.proofs.FailingSearch.{from_number}
use Rattle.plan_checker.proofs.conditions.check_each.Given as goal

abbrev pub invariant-loop-i : goal.invariant-loop-i
invariant-loop-i g l =
    after (search_of l.fn.search) (from_number (g.C.ItemCondition.entries l.plans) (g.C.ItemCondition.items l.plans) 0)
    ≡ after (search_of l.search) (from_number (g.C.ItemCondition.entries l.plans) (g.C.ItemCondition.items l.plans) l.i)
