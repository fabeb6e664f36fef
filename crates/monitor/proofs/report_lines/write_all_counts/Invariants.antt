use Rattle.std.proofs.Common.{◌≡◌, ◌++◌, drop, string_bytes}
use Rattle.monitor.specs.ReportLines.{pid_lines}
use Rattle.monitor.proofs.report_lines.write_all_counts.Given as goal

abbrev pub invariant-loop-counts : goal.invariant-loop-counts
invariant-loop-counts g l = string_bytes l.text ++ pid_lines (drop l.counts-index l.pids) ≡ string_bytes l.fn.text ++ pid_lines l.pids
