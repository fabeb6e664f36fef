use Rattle.ts_packet.proofs.Written.{packets_again}
use Rattle.ts_packet.proofs.laws.packets_again.Goals as goal

pub returns : goal.returns
returns c = packets_again
