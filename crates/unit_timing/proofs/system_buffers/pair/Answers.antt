use Rattle.unit_timing.proofs.ScheduleLemmas.{system_law}
use Rattle.unit_timing.proofs.system_buffers.pair.Goals as goal

pub returns : goal.returns
returns c = system_law
