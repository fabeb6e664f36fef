use Rattle.std.proofs.Common.{◌≡◌, ◌++◌, drop, string_bytes}
use Rattle.job_programs.proofs.job_events.write_events.Given as goal
use Rattle.job_programs.specs.Events.{events_text}

abbrev pub invariant-loop-event : goal.invariant-loop-event
invariant-loop-event l = string_bytes l.text ++ events_text (drop l.event-index l.events) ≡ string_bytes l.fn.text ++ events_text l.events
