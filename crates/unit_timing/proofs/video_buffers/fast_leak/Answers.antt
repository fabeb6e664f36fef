use Rattle.unit_timing.proofs.MultiplexingLemmas.{fast_leak_law}
use Rattle.unit_timing.proofs.video_buffers.fast_leak.Goals as goal

pub returns : goal.returns
returns c = fast_leak_law
