use Rattle.pes_packet.proofs.laws.longer_is_read.Goals as goal
use Rattle.pes_packet.proofs.LongerRead.{longer_is_read}

pub returns : goal.returns
returns c = longer_is_read
