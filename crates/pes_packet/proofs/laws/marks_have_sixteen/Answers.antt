use Rattle.pes_packet.proofs.Sixteen.{marks_have_sixteen}
use Rattle.pes_packet.proofs.laws.marks_have_sixteen.Goals as goal

pub returns : goal.returns
returns c = marks_have_sixteen
