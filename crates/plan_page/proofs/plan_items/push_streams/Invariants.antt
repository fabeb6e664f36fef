use Rattle.std.proofs.Common.{◌≡◌, ◌∷◌, [], ◌++◌, drop}
use Rattle.slot_plan.specs.Numbered.{numbered}
use Rattle.plan_page.specs.PlanItems.{stream_item}
use Rattle.plan_page.proofs.plan_items.push_streams.Given as goal

abbrev pub invariant-loop-number : goal.invariant-loop-number
invariant-loop-number l = l.items.items ++ numbered (λ i s. stream_item i s ∷ []) l.number (drop l.number l.streams)
    ≡ l.fn.items.items ++ numbered (λ i s. stream_item i s ∷ []) 0 l.streams
