use Rattle.std.proofs.Common.{◌≡◌, ◌++◌, drop, string_bytes}
use Rattle.job_programs.specs.JobTables.{tables_text}
use Rattle.stream_jobs.proofs.table_lines.write_tables.Given as goal

abbrev pub invariant-loop-table : goal.invariant-loop-table
invariant-loop-table l =
    string_bytes l.text ++ tables_text l.streams (drop l.table-index l.tables)
    ≡ string_bytes l.fn.text ++ tables_text l.streams l.tables
