use Rattle.std.proofs.Common.{◌≡◌, ◌++◌, map}
use Rattle.ts_watch.specs.TableEvents.{table_event, table_events}
use Rattle.ts_watch.proofs.table_watch.TableWatch.push_end.Given as goal

abbrev pub invariant-loop-key : goal.invariant-loop-key
invariant-loop-key l = l.events.items ++ map (table_event l.self.times.intervals.timing) l.key-iterator ≡ l.fn.events.items ++ table_events l.self
