-- The conditions of a second plan after a first plan, in order.
use Rattle.std.specs.Prelude.{◌++◌, Option, Some, None}
use Rattle.std.proofs.Common.{◌≡◌, refl, ap, sym, ◌∙◌}
use Rattle.description_parts.specs.Described.{Described}
use Rattle.slot_plan.specs.Planned.{Planned}
use Rattle.slot_plan.specs.Entries.{Entry, first_failing}
use Rattle.slot_plan.specs.Conditions.{entries}
use Rattle.slot_plan.specs.SwitchConditions.{joint_entries, switch_entries}
use Rattle.plan_checker.proofs.FailingSearch.{then_after}

-- If a condition of the second plan alone fails, it is the first condition that fails.
pub second_fails : (d : Described) (first second : Planned) (e : Entry) → Some e ≡ first_failing (entries d second) →
    Some e ≡ first_failing (switch_entries d first second)
second_fails d first second e some = some ∙ ap first_failing (sym same)
  where
    same : switch_entries d first second ≡ entries d second
    same = rw (← some) refl

-- If all conditions of the second plan hold, the joint conditions decide.
pub second_serves : (d : Described) (first second : Planned) (r : Option Entry) → None ≡ first_failing (entries d second) →
    r ≡ first_failing (joint_entries d first second) →
    r ≡ first_failing (switch_entries d first second)
second_serves d first second r none joint = then_after (entries d second) (joint_entries d first second) r none joint ∙ ap first_failing (sym same)
  where
    same : switch_entries d first second ≡ entries d second ++ joint_entries d first second
    same = rw (← none) refl
