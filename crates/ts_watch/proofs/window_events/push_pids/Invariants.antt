use Rattle.std.proofs.Common.{◌≡◌, ◌++◌, map}
use Rattle.ts_watch.specs.WindowEvents.{pid_event, pid_events}
use Rattle.ts_watch.proofs.window_events.push_pids.Given as goal

abbrev pub invariant-loop-pid : goal.invariant-loop-pid
invariant-loop-pid l = l.events.items ++ map pid_event l.pid-iterator ≡ l.fn.events.items ++ pid_events l.totals
