use Rattle.std.proofs.Common.{◌≡◌, ◌++◌, drop}
use Rattle.ts_report.specs.StoppedClocks.{clocks_events}
use Rattle.ts_report.proofs.stopped_clocks.push_clocks.Given as goal

abbrev pub invariant-loop-pid : goal.invariant-loop-pid
invariant-loop-pid l =
    l.events.items ++ clocks_events l.options l.tables.times.intervals.timing l.clocks l.packets l.place (drop l.pid-index l.pids) ≡ l.fn.events.items
    ++ clocks_events l.options l.tables.times.intervals.timing l.clocks l.packets l.place l.pids
