use Rattle.std.proofs.Common.{◌≡◌, ◌≤◌, take}
use Rattle.std.specs.List.{count_by}
use Rattle.description.specs.SectionBytes.{has_ended}
use Rattle.description.proofs.event_information.ended.Given as goal

abbrev pub invariant-loop-event : goal.invariant-loop-event
invariant-loop-event l = record {
  count : l.count ≡ count_by (has_ended l.moment) (take l.event-index l.events);
  most : l.count ≤ l.event-index;
}
