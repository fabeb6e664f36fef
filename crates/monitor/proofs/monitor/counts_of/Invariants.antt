use Rattle.std.proofs.Common.{◌≡◌, ◌++◌, map}
use Rattle.monitor.specs.Reports.{pid_counts}
use Rattle.monitor.proofs.monitor.counts_of.Given as goal

abbrev pub invariant-loop-pid : goal.invariant-loop-pid
invariant-loop-pid g l = l.counts.items ++ map (pid_counts l.finding_counts.entries) l.pid-iterator ≡ map (pid_counts l.fn.finding_counts.entries)
    l.fn.packet_counts.entries
