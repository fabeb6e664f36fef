use Rattle.std.proofs.Common.{◌≡◌}
use Rattle.descriptor_loops.specs.Descriptors.{descriptors_of}
use Rattle.dvb_tables.specs.Services.{service_view}
use Rattle.ts_services.specs.Services.{in_descriptors, service_by}
use Rattle.ts_services.proofs.services.service_by.Given as goal

abbrev pub invariant-loop-descriptor : goal.invariant-loop-descriptor
invariant-loop-descriptor l = in_descriptors (service_view l.entry) (descriptors_of l.descriptor-iterator) ≡ service_by (service_view l.entry)
