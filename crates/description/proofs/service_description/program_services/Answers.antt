use Rattle.std.proofs.Common.{ap, length, ◌∙◌}
use Rattle.dvb_tables.specs.Services.{services_bytes}
use Rattle.description.proofs.LoopLengths.{no_service_bytes}
use Rattle.description.proofs.service_description.program_services.Goals as goal

pub loop-program-init : goal.loop-program-init
loop-program-init c = record {
  services = c.new-entries.ensures;
  length = ap (λ xs. length (services_bytes xs)) c.new-entries.ensures ∙ no_service_bytes;
}
