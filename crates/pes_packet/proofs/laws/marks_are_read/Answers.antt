use Rattle.pes_packet.proofs.laws.marks_are_read.Goals as goal
use Rattle.pes_packet.proofs.Written.{marks_are_read}

pub returns : goal.returns
returns c = marks_are_read
