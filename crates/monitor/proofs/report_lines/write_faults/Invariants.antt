use Rattle.std.proofs.Common.{◌≡◌, ◌++◌, drop, string_bytes}
use Rattle.monitor.specs.ReportLines.{fault_lines}
use Rattle.monitor.proofs.report_lines.write_faults.Given as goal

abbrev pub invariant-loop-fault : goal.invariant-loop-fault
invariant-loop-fault g l = string_bytes l.text ++ fault_lines (drop l.fault-index l.faults) ≡ string_bytes l.fn.text ++ fault_lines l.faults
