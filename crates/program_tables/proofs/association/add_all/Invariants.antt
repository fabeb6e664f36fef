use Rattle.std.proofs.Common.{◌≡◌, drop, map}
use Rattle.pid_findings.specs.Shown.{finding_view}
use Rattle.program_tables.specs.Association.{with_programs, entries}
use Rattle.program_tables.proofs.association.add_all.Given as goal

abbrev pub invariant-loop-finding : goal.invariant-loop-finding
invariant-loop-finding g l =
    with_programs l.fn.programs (entries l.version (map finding_view l.findings))
    ≡ with_programs l.programs (entries l.version (map finding_view (drop l.finding-index l.findings)))
