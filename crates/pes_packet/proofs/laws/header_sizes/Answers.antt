use Rattle.pes_packet.proofs.laws.header_sizes.Goals as goal
use Rattle.pes_packet.proofs.Written.{header_sizes}

pub returns : goal.returns
returns c = header_sizes
