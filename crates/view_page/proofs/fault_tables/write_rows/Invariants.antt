use Rattle.std.proofs.Common.{◌≡◌, ◌++◌, drop, string_bytes}
use Rattle.std.specs.Prelude.{flat_map}
use Rattle.view_page.specs.FaultTables.{fault_row}
use Rattle.view_page.proofs.fault_tables.write_rows.Given as goal

abbrev pub invariant-loop-row : goal.invariant-loop-row
invariant-loop-row l = string_bytes l.text ++ flat_map (fault_row l.traces) (drop l.row-index l.rows) ≡ string_bytes l.fn.text
    ++ flat_map (fault_row l.traces) l.rows
