use Rattle.ts_packet.proofs.PcrBytes.{pcr_in_bytes}
use Rattle.ts_packet.proofs.laws.pcr_in_bytes.Goals as goal

pub returns : goal.returns
returns c = pcr_in_bytes
