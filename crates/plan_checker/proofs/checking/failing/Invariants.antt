use Rattle.std.specs.Prelude.{map, take}
use Rattle.std.proofs.Common.{◌≡◌, ◌-◌, length}
use Rattle.plan_checker.specs.Failing.{failing}
use Rattle.plan_checker.specs.Refusals.{entry_of}
use Rattle.plan_checker.proofs.checking.failing.Given as goal

abbrev pub invariant-windows : goal.invariant-windows
invariant-windows g l = map entry_of l.found.items ≡ take (length l.found.items) (failing l.description l.plan)

abbrev pub decreases-windows : goal.decreases-windows
decreases-windows g l = length (failing l.description l.plan) - length l.found.items
