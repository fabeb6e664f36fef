use Rattle.std.proofs.Common.{◌≡◌, ◌++◌, drop}
use Rattle.ts_report.specs.StoppedEvents.{errors_events}
use Rattle.ts_report.proofs.stopped_tables.push_errors.Given as goal

abbrev pub invariant-loop-error : goal.invariant-loop-error
invariant-loop-error l = l.events.items ++ errors_events (drop l.error-index l.errors) ≡ l.fn.events.items ++ errors_events l.fn.errors
