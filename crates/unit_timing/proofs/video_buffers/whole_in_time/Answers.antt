use Rattle.unit_timing.proofs.MultiplexingLemmas.{whole_in_time_law}
use Rattle.unit_timing.proofs.video_buffers.whole_in_time.Goals as goal

pub returns : goal.returns
returns c = whole_in_time_law
