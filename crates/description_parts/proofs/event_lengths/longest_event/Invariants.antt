use Rattle.std.proofs.Common.{◌≡◌, ◌≤◌, max, drop}
use Rattle.description_parts.specs.Tables.{longest_event}
use Rattle.description_parts.proofs.event_lengths.longest_event.Given as goal

abbrev pub invariant-loop-event : goal.invariant-loop-event
invariant-loop-event l = record {
  longest : longest_event l.events ≡ max l.longest (longest_event (drop l.event-index l.events));
  bound : l.longest ≤ 4012;
}
