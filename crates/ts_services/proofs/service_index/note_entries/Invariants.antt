use Rattle.std.proofs.Common.{◌≡◌}
use Rattle.dvb_tables.specs.Services.{services_of}
use Rattle.ts_services.specs.ServicePlaces.{with_entries}
use Rattle.ts_services.proofs.service_index.note_entries.Given as goal

abbrev pub invariant-loop-entry : goal.invariant-loop-entry
invariant-loop-entry g l = with_entries l.fn.places.entries l.at (services_of l.fn.entries) ≡ with_entries l.places.entries l.at (services_of l.entry-iterator)
