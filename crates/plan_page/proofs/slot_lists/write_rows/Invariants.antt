use Rattle.std.proofs.Common.{◌≡◌, ◌++◌, drop, string_bytes}
use Rattle.std.specs.Prelude.{flat_map}
use Rattle.plan_page.specs.SlotLists.{slot_row}
use Rattle.plan_page.proofs.slot_lists.write_rows.Given as goal

abbrev pub invariant-loop-item : goal.invariant-loop-item
invariant-loop-item l = string_bytes l.text ++ flat_map (slot_row l.slots) (drop l.item-index l.items) ≡ string_bytes l.fn.text
    ++ flat_map (slot_row l.slots) l.items
