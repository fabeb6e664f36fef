use Rattle.std.proofs.Common.{◌≡◌, ◌≤◌, take}
use Rattle.std.specs.List.{count_by}
use Rattle.description.specs.SectionBytes.{has_begun}
use Rattle.description.proofs.event_information.begun.Given as goal

abbrev pub invariant-loop-event : goal.invariant-loop-event
invariant-loop-event l = record {
  count : l.count ≡ count_by (has_begun l.moment) (take l.event-index l.events);
  most : l.count ≤ l.event-index;
}
