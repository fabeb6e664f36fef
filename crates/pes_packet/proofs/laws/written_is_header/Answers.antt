use Rattle.pes_packet.proofs.laws.written_is_header.Goals as goal
use Rattle.pes_packet.proofs.Written.{written_is_header}

pub returns : goal.returns
returns c = written_is_header
