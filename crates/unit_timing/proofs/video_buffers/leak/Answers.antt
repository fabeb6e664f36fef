use Rattle.unit_timing.proofs.MultiplexingLemmas.{leak_law}
use Rattle.unit_timing.proofs.video_buffers.leak.Goals as goal

pub returns : goal.returns
returns c = leak_law
