use Rattle.pes_packet.proofs.laws.without_marks.Goals as goal
use Rattle.pes_packet.proofs.Written.{without_marks}

pub returns : goal.returns
returns c = without_marks
