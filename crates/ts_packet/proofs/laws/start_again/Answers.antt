use Rattle.ts_packet.proofs.PlainWritten.{start_again}
use Rattle.ts_packet.proofs.laws.start_again.Goals as goal

pub returns : goal.returns
returns c = start_again
