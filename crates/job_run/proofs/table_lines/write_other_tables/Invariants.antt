use Rattle.std.proofs.Common.{◌≡◌, ◌++◌, drop, string_bytes}
use Rattle.job_run.specs.TableLines.{other_table_lines}
use Rattle.job_run.proofs.table_lines.write_other_tables.Given as goal

abbrev pub invariant-loop-table : goal.invariant-loop-table
invariant-loop-table l =
    string_bytes l.text ++ other_table_lines (drop l.table-index l.tables) ≡ string_bytes l.fn.text ++ other_table_lines l.tables
