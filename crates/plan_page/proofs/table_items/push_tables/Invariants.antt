use Rattle.std.proofs.Common.{◌≡◌, ◌∷◌, [], ◌++◌, drop}
use Rattle.description_parts.specs.Tables.{table_kinds}
use Rattle.slot_plan.specs.Numbered.{numbered}
use Rattle.plan_page.specs.PlanItems.{table_item}
use Rattle.plan_page.proofs.table_items.push_tables.Given as goal

abbrev pub invariant-loop-table : goal.invariant-loop-table
invariant-loop-table l = l.items.items ++ numbered (λ t _. table_item l.description t ∷ []) l.table (drop l.table (table_kinds l.description))
    ≡ l.fn.items.items ++ numbered (λ t _. table_item l.description t ∷ []) 0 (table_kinds l.description)
