use Rattle.std.proofs.Common.{◌≡◌, drop, map}
use Rattle.pid_findings.specs.Shown.{finding_view}
use Rattle.program_tables.specs.KnownTables.{known_from}
use Rattle.program_tables.proofs.known_tables.KnownTables.take.Given as goal

abbrev pub invariant-loop-at : goal.invariant-loop-at
invariant-loop-at g l =
    known_from l.fn.self l.taken (map finding_view (drop l.taken l.findings)) ≡ known_from l.self l.at (map finding_view (drop l.at l.findings))
