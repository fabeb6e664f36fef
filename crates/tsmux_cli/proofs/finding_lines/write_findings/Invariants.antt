use Rattle.std.proofs.Common.{◌≡◌, ◌++◌, drop, map}
use Rattle.pid_findings.specs.Shown.{finding_view}
use Rattle.tsmux_cli.specs.FindingLines.{finding_lines}
use Rattle.tsmux_cli.proofs.finding_lines.write_findings.Given as goal

abbrev pub invariant-loop-finding : goal.invariant-loop-finding
invariant-loop-finding l =
    l.text.items ++ finding_lines (map finding_view (drop l.finding-index l.found)) ≡ l.fn.text.items ++ finding_lines (map finding_view l.found)
