use Rattle.unit_timing.proofs.SlowLeaks.{slow_leak_law}
use Rattle.unit_timing.proofs.video_buffers.slow_leak.Goals as goal

pub returns : goal.returns
returns c = slow_leak_law
