use Rattle.ts_packet.proofs.PlainWritten.{payloads_again}
use Rattle.ts_packet.proofs.laws.payloads_again.Goals as goal

pub returns : goal.returns
returns c = payloads_again
