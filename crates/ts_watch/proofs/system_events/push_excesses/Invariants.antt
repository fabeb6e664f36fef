use Rattle.std.proofs.Common.{◌≡◌, ◌++◌, drop}
use Rattle.ts_watch.specs.SystemEvents.{excess_events}
use Rattle.ts_watch.proofs.system_events.push_excesses.Given as goal

abbrev pub invariant-loop-reported : goal.invariant-loop-reported
invariant-loop-reported l =
    l.events.items ++ excess_events l.options l.choice l.packet (drop l.reported-index l.excesses) ≡ l.fn.events.items
    ++ excess_events l.options l.choice l.packet l.excesses
