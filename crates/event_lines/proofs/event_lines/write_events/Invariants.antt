use Rattle.std.proofs.Common.{◌≡◌, ◌++◌, drop, string_bytes}
use Rattle.event_lines.specs.EventLines.{lines_of}
use Rattle.event_lines.proofs.event_lines.write_events.Given as goal

abbrev pub invariant-loop-event : goal.invariant-loop-event
invariant-loop-event l = string_bytes l.text ++ lines_of l.form (drop l.event-index l.events) ≡ string_bytes l.fn.text ++ lines_of l.form l.events
