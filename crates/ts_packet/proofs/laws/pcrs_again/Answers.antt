use Rattle.ts_packet.proofs.PlainWritten.{pcrs_again}
use Rattle.ts_packet.proofs.laws.pcrs_again.Goals as goal

pub returns : goal.returns
returns c = pcrs_again
