use Rattle.std.proofs.Common.{◌≡◌, [], ◌∷◌, ◌++◌, take}
use Rattle.description_parts.specs.Tables.{table_kinds}
use Rattle.slot_plan.specs.Numbered.{numbered}
use Rattle.slot_plan.specs.declared.slot.Slot.TheVariants.{Table}
use Rattle.plan_maker.specs.Spacings.{spacing, table_room}
use Rattle.plan_maker.proofs.spacing.push_tables.Given as goal

abbrev pub invariant-loop-t : goal.invariant-loop-t
invariant-loop-t g l =
    l.items.items ≡ l.initial.items.items ++ numbered (λ t _. record { slot = Table t; spacing = spacing (table_room l.description t) } ∷ []) 0
    (take l.t (table_kinds l.description))
