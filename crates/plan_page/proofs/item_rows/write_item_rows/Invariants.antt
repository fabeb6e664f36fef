use Rattle.std.proofs.Common.{◌≡◌, ◌++◌, drop, string_bytes}
use Rattle.std.specs.Prelude.{flat_map}
use Rattle.plan_page.specs.ItemRows.{item_row}
use Rattle.plan_page.proofs.item_rows.write_item_rows.Given as goal

abbrev pub invariant-loop-item : goal.invariant-loop-item
invariant-loop-item l = string_bytes l.text ++ flat_map (item_row l.rate l.slots) (drop l.item-index l.items) ≡ string_bytes l.fn.text
    ++ flat_map (item_row l.rate l.slots) l.items
