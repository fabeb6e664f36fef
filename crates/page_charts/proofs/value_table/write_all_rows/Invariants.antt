use Rattle.std.proofs.Common.{◌≡◌, ◌++◌, drop, string_bytes}
use Rattle.std.specs.Prelude.{flat_map}
use Rattle.page_charts.specs.ValueTables.{rows}
use Rattle.page_charts.proofs.value_table.write_all_rows.Given as goal

abbrev pub invariant-loop-entry : goal.invariant-loop-entry
invariant-loop-entry l = string_bytes l.text ++ flat_map (rows l.frame) (drop l.entry-index l.curves) ≡ string_bytes l.fn.text
    ++ flat_map (rows l.frame) l.curves
