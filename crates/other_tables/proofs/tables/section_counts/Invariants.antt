use Rattle.std.proofs.Common.{◌≤◌, length}
use Rattle.pid_findings.specs.Shown.{finding_view}
use Rattle.other_tables.proofs.PidCounts.{CountsFrom}
use Rattle.other_tables.proofs.tables.section_counts.Given as goal

abbrev pub invariant-findings : goal.invariant-findings
invariant-findings l = record {
  inside : l.left ≤ length l.findings;
  counts : CountsFrom finding_view l.counts.items l.left l.findings;
}

abbrev pub decreases-findings : goal.decreases-findings
decreases-findings l = l.left
