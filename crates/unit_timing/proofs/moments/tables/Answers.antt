use Rattle.unit_timing.proofs.MomentLemmas.{system_transport_moments, system_buffer_moments}
use Rattle.unit_timing.proofs.moments.tables.Goals as goal

pub returns-clause-transport : goal.returns-clause-transport
returns-clause-transport c = system_transport_moments

pub returns-clause-system : goal.returns-clause-system
returns-clause-system c = system_buffer_moments
