use Rattle.std.proofs.Common.{◌≡◌, map, take, length, sum_by}
use Rattle.dvb_tables.specs.Services.{service_loop_of, services_bytes}
use Rattle.description_parts.specs.Tables.{service_length}
use Rattle.description.specs.SectionBytes.{service_says}
use Rattle.description.proofs.service_description.program_services.Given as goal

abbrev pub invariant-loop-program : goal.invariant-loop-program
invariant-loop-program l = record {
  services : service_loop_of l.entries ≡ map (service_says l.has_eit) (take l.program-index l.programs);
  length : length (services_bytes (service_loop_of l.entries)) ≡ sum_by service_length (take l.program-index l.programs);
}
