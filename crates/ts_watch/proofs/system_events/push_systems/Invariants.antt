use Rattle.std.proofs.Common.{◌≡◌, ◌++◌, drop}
use Rattle.ts_watch.specs.SystemEvents.{system_events}
use Rattle.ts_watch.proofs.system_events.push_systems.Given as goal

abbrev pub invariant-loop-program : goal.invariant-loop-program
invariant-loop-program l =
    l.events.items ++ system_events l.options l.choice l.packets (drop l.program-index l.programs)
    ≡ l.fn.events.items ++ system_events l.options l.choice l.packets l.programs
