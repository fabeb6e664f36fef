use Rattle.std.proofs.Common.{◌≡◌, ◌++◌, drop, map}
use Rattle.std.specs.List.{flat_map}
use Rattle.pid_findings.specs.Shown.{finding_view}
use Rattle.job_programs.specs.JobTables.{tables_on}
use Rattle.job_inputs.proofs.job_tables.all_tables.Given as goal

abbrev pub invariant-loop-entry : goal.invariant-loop-entry
invariant-loop-entry l =
    l.tables.items ++ flat_map (tables_on l.without l.count (map finding_view l.findings) l.programs l.streams) (drop l.entry-index l.entries)
    ≡ flat_map (tables_on l.without l.count (map finding_view l.findings) l.programs l.streams) l.entries
