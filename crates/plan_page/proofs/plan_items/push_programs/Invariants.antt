use Rattle.std.proofs.Common.{◌≡◌, ◌∷◌, [], ◌++◌, drop}
use Rattle.slot_plan.specs.Numbered.{numbered}
use Rattle.plan_page.specs.PlanItems.{pcr_item}
use Rattle.plan_page.proofs.plan_items.push_programs.Given as goal

abbrev pub invariant-loop-number : goal.invariant-loop-number
invariant-loop-number l = l.items.items ++ numbered (λ i p. pcr_item l.description i p ∷ []) l.number (drop l.number l.description.programs)
    ≡ l.fn.items.items ++ numbered (λ i p. pcr_item l.description i p ∷ []) 0 l.description.programs
