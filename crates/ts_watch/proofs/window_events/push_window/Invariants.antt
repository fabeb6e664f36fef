use Rattle.std.proofs.Common.{◌≡◌, ◌++◌, map}
use Rattle.ts_watch.specs.WindowEvents.{window_event, window_events}
use Rattle.ts_watch.proofs.window_events.push_window.Given as goal

abbrev pub invariant-loop-pid : goal.invariant-loop-pid
invariant-loop-pid l =
    l.events.items ++ map (window_event l.options l.named l.names.names l.number) l.pid-iterator
    ≡ l.fn.events.items ++ window_events l.options l.named l.names.names l.window
