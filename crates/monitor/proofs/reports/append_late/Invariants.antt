use Rattle.std.proofs.Common.{◌≡◌, ◌++◌, drop, map}
use Rattle.monitor.specs.Reports.{late_fault}
use Rattle.monitor.proofs.reports.append_late.Given as goal

abbrev pub invariant-loop-one : goal.invariant-loop-one
invariant-loop-one g l = l.faults.items ++ map (late_fault l.rule) (drop l.one-index l.late) ≡ l.fn.faults.items ++ map (late_fault l.fn.rule) l.fn.late
