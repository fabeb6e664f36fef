use Rattle.std.proofs.Common.{◌≡◌, drop, map}
use Rattle.pid_findings.specs.Shown.{finding_view}
use Rattle.program_tables.specs.Association.{first_pat}
use Rattle.program_tables.proofs.association.first_pat.Given as goal

abbrev pub invariant-loop-finding : goal.invariant-loop-finding
invariant-loop-finding g l = first_pat (map finding_view l.findings) ≡ first_pat (map finding_view (drop l.finding-index l.findings))
