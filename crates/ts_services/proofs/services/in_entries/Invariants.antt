use Rattle.std.proofs.Common.{◌≡◌}
use Rattle.dvb_tables.specs.Services.{services_of}
use Rattle.ts_services.specs.Services.{in_entries}
use Rattle.ts_services.proofs.services.in_entries.Given as goal

abbrev pub invariant-loop-entry : goal.invariant-loop-entry
invariant-loop-entry l = in_entries l.number (services_of l.entry-iterator) ≡ in_entries l.number (services_of l.fn.entries)
