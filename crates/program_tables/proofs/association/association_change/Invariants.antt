use Rattle.std.proofs.Common.{◌≡◌, drop, map}
use Rattle.pid_findings.specs.Shown.{finding_view}
use Rattle.program_tables.specs.Association.{association_change}
use Rattle.program_tables.proofs.association.association_change.Given as goal

abbrev pub invariant-loop-finding : goal.invariant-loop-finding
invariant-loop-finding g l =
    association_change l.association (map finding_view l.findings) ≡ association_change l.association (map finding_view (drop l.finding-index l.findings))
