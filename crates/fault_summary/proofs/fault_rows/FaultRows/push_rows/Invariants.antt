use Rattle.std.proofs.Common.{◌≡◌, ◌++◌, map}
use Rattle.fault_summary.specs.FaultRows.{row_event, row_events}
use Rattle.fault_summary.proofs.fault_rows.FaultRows.push_rows.Given as goal

abbrev pub invariant-loop-key : goal.invariant-loop-key
invariant-loop-key l = l.events.items ++ map row_event l.key-iterator ≡ l.fn.events.items ++ row_events l.self
