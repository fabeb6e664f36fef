use Rattle.unit_timing.proofs.LeakMethodLemmas.{never_full_law}
use Rattle.unit_timing.proofs.video_buffers.never_full.Goals as goal

pub returns : goal.returns
returns c = never_full_law
