use Rattle.std.proofs.Common.{◌≡◌}
use Rattle.dvb_tables.specs.EventEntries.{events_of}
use Rattle.service_information.specs.Events.{with_entries}
use Rattle.service_information.proofs.events.take_entries.Given as goal

abbrev pub invariant-loop-entry : goal.invariant-loop-entry
invariant-loop-entry l =
    with_entries l.program l.taken.items (events_of l.entry-iterator) ≡ with_entries l.program l.fn.taken.items (events_of l.fn.entries)
