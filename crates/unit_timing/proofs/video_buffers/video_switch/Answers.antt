use Rattle.unit_timing.proofs.VideoLemmas.{video_switch_law}
use Rattle.unit_timing.proofs.video_buffers.video_switch.Goals as goal

pub returns : goal.returns
returns c = video_switch_law
