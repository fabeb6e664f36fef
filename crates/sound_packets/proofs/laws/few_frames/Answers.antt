use Rattle.sound_packets.proofs.CutBytes.{few_frames_law}
use Rattle.sound_packets.proofs.laws.few_frames.Goals as goal

pub returns : goal.returns
returns c = few_frames_law
