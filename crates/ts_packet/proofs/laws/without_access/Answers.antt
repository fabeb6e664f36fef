use Rattle.ts_packet.proofs.PlainWritten.{without_access}
use Rattle.ts_packet.proofs.laws.without_access.Goals as goal

pub returns : goal.returns
returns c = without_access
