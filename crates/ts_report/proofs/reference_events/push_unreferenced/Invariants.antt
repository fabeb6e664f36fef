use Rattle.std.proofs.Common.{◌≡◌, ◌++◌, drop}
use Rattle.ts_report.specs.ReferenceEvents.{unreferenced_events}
use Rattle.ts_report.proofs.reference_events.push_unreferenced.Given as goal

abbrev pub invariant-loop-pid : goal.invariant-loop-pid
invariant-loop-pid l =
    l.events.items ++ unreferenced_events l.names (drop l.pid-index l.pids) ≡ l.fn.events.items ++ unreferenced_events l.names l.pids
