use Rattle.unit_timing.proofs.VideoLemmas.{video_law}
use Rattle.unit_timing.proofs.video_buffers.video.Goals as goal

pub returns : goal.returns
returns c = video_law
