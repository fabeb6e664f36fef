use Rattle.std.proofs.Common.{◌≡◌, ◌++◌, drop, map}
use Rattle.pid_findings.specs.Shown.{finding_view}
use Rattle.ts_report.specs.AbsentTables.{maps_events}
use Rattle.ts_report.proofs.absent_tables.push_maps.Given as goal

abbrev pub invariant-loop-program : goal.invariant-loop-program
invariant-loop-program l =
    l.events.items ++ maps_events (map finding_view l.findings) l.tables (drop l.program-index l.programs) ≡ l.fn.events.items
    ++ maps_events (map finding_view l.findings) l.tables l.programs
