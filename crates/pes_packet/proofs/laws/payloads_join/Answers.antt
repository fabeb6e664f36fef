use Rattle.pes_packet.proofs.laws.payloads_join.Goals as goal
use Rattle.pes_packet.proofs.Payloads.{payloads_join}

pub returns : goal.returns
returns c = payloads_join
