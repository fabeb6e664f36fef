use Rattle.pes_packet.proofs.laws.header_counts.Goals as goal
use Rattle.pes_packet.proofs.Written.{header_counts}

pub returns : goal.returns
returns c = header_counts
