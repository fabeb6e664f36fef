use Rattle.ts_packet.proofs.Again.{packet_read}
use Rattle.ts_packet.proofs.laws.read_once.Goals as goal

pub returns : goal.returns
returns c = packet_read
