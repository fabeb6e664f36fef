use Rattle.sound_packets.proofs.CutBytes.{same_bytes_law}
use Rattle.sound_packets.proofs.laws.same_bytes.Goals as goal

pub returns : goal.returns
returns c = same_bytes_law
