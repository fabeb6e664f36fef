use Rattle.std.proofs.Common.{◌≡◌, ◌++◌, drop, string_bytes}
use Rattle.page_curves.specs.Paths.{numbered}
use Rattle.page_charts.specs.ValueTables.{row}
use Rattle.page_charts.proofs.value_table.write_slots.Given as goal

abbrev pub invariant-loop-slot : goal.invariant-loop-slot
invariant-loop-slot l = string_bytes l.text ++ numbered (row l.frame l.entry) l.slot (drop l.slot l.slots) ≡ string_bytes l.fn.text
    ++ numbered (row l.frame l.entry) 0 l.slots
