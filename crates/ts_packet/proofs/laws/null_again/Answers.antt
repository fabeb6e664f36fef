use Rattle.ts_packet.proofs.PlainWritten.{null_again}
use Rattle.ts_packet.proofs.laws.null_again.Goals as goal

pub returns : goal.returns
returns c = null_again
