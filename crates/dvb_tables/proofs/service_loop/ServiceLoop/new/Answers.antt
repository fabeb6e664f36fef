use Rattle.std.proofs.Common.{◌∙◌, ap, List, ℕ}
use Rattle.std.specs.Prelude.{is_some}
use Rattle.psi_tables.specs.Loops.{loop_at}
use Rattle.psi_tables.proofs.LoopParts.{loop_at-end}
use Rattle.dvb_tables.specs.Services.{services_in, service_loop_of}
use Rattle.dvb_tables.proofs.ServiceLoops.{no_services}
use Rattle.dvb_tables.proofs.service_loop.ServiceLoop.new.Goals as goal

pub invariant_of-result : goal.invariant_of-result
invariant_of-result c = record { whole = ap (λ (bytes : List ℕ). is_some (loop_at 5 bytes)) c.new.ensures ∙ ap is_some (loop_at-end 5) }

pub returns : goal.returns
unfolding service_loop_of
returns c = ap services_in c.new.ensures ∙ no_services
