use Rattle.sound_frames.proofs.FrameSums.{sums}
use Rattle.sound_frames.proofs.laws.sums_of_last_frames.Goals as goal

pub returns : goal.returns
returns c = sums
