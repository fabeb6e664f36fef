use Rattle.std.proofs.Common.{◌≡◌, ◌++◌, drop}
use Rattle.ts_watch.specs.ClockEvents.{inaccuracy_events}
use Rattle.ts_watch.proofs.clock_events.push_inaccuracies.Given as goal

abbrev pub invariant-loop-error : goal.invariant-loop-error
invariant-loop-error l = l.events.items ++ inaccuracy_events (drop l.error-index l.errors) ≡ l.fn.events.items ++ inaccuracy_events l.errors
