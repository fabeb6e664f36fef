use Rattle.std.proofs.Common.{◌≡◌, ◌++◌, drop}
use Rattle.ts_report.specs.ReferenceEvents.{missing_events}
use Rattle.ts_report.proofs.reference_events.push_missing.Given as goal

abbrev pub invariant-loop-pid : goal.invariant-loop-pid
invariant-loop-pid l = l.events.items ++ missing_events (drop l.pid-index l.pids) ≡ l.fn.events.items ++ missing_events l.pids
