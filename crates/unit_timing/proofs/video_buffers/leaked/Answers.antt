use Rattle.unit_timing.proofs.MultiplexingLemmas.{leaked_law}
use Rattle.unit_timing.proofs.video_buffers.leaked.Goals as goal

pub returns : goal.returns
returns c = leaked_law
