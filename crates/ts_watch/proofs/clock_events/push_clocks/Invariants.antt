use Rattle.std.proofs.Common.{◌≡◌, ◌++◌, map}
use Rattle.ts_watch.specs.ClockEvents.{clock_event, clock_events}
use Rattle.ts_watch.proofs.clock_events.push_clocks.Given as goal

abbrev pub invariant-loop-pid : goal.invariant-loop-pid
invariant-loop-pid l = l.events.items ++ map clock_event l.pid-iterator ≡ l.fn.events.items ++ clock_events l.watches
