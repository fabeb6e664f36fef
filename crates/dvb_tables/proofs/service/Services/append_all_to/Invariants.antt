use Rattle.std.proofs.Common.{◌≡◌, ◌++◌}
use Rattle.dvb_tables.specs.Services.{services_of, services_bytes}
use Rattle.dvb_tables.proofs.service.Services.append_all_to.Given as goal

abbrev pub invariant-loop-service : goal.invariant-loop-service
invariant-loop-service l = l.out.items ++ services_bytes (services_of l.service-iterator) ≡ l.initial.out.items ++ services_bytes (services_of l.fn.self)
