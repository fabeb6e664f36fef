use Rattle.pes_packet.proofs.laws.written_is_read.Goals as goal
use Rattle.pes_packet.proofs.Written.{written_is_read}

pub returns : goal.returns
returns c = written_is_read
