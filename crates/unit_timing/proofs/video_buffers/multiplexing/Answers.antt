use Rattle.unit_timing.proofs.MultiplexingLemmas.{multiplexing_law}
use Rattle.unit_timing.proofs.video_buffers.multiplexing.Goals as goal

pub returns : goal.returns
returns c = multiplexing_law
