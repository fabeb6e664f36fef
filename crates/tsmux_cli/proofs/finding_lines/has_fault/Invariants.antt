use Rattle.std.proofs.Common.{◌≡◌, drop, map}
use Rattle.pid_findings.specs.Shown.{finding_view}
use Rattle.tsmux_cli.specs.FindingLines.{has_fault}
use Rattle.tsmux_cli.proofs.finding_lines.has_fault.Given as goal

abbrev pub invariant-loop-finding : goal.invariant-loop-finding
invariant-loop-finding l = has_fault (map finding_view (drop l.finding-index l.found)) ≡ has_fault (map finding_view l.found)
