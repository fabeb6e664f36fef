use Rattle.std.proofs.Common.{◌≤◌, length}
use Rattle.pid_findings.specs.Shown.{finding_view}
use Rattle.stream_programs.proofs.PesCounts.{CountsFrom}
use Rattle.stream_programs.proofs.pid_counts.pes_counts.Given as goal

abbrev pub invariant-findings : goal.invariant-findings
invariant-findings g l = record {
  inside : l.left ≤ length l.findings;
  counts : CountsFrom finding_view l.counts.items l.left l.findings;
}

abbrev pub decreases-findings : goal.decreases-findings
decreases-findings g l = l.left
