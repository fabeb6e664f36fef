use Rattle.std.proofs.Common.{◌≡◌, ◌++◌, map, drop}
use Rattle.job_programs.specs.Events.{event_part}
use Rattle.job_programs.proofs.job_events.push_events.Given as goal

abbrev pub invariant-loop-event : goal.invariant-loop-event
invariant-loop-event l = l.events.items ++ map event_part (drop l.event-index l.found) ≡ l.initial.events.items ++ map event_part l.found
