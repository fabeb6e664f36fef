use Rattle.std.proofs.Common.{◌≡◌}
use Rattle.std.specs.List.{list_all}
use Rattle.dvb_tables.specs.EventEntries.{events_of}
use Rattle.service_information.specs.EventSurplus.{is_said}
use Rattle.service_information.proofs.event_surplus.are_said.Given as goal

abbrev pub invariant-loop-entry : goal.invariant-loop-entry
invariant-loop-entry l =
    list_all (is_said l.program l.taken) (events_of l.entry-iterator) ≡ list_all (is_said l.program l.taken) (events_of l.fn.entries)
