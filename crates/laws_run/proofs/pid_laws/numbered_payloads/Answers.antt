use Rattle.laws_run.proofs.PidPackets.{numbered_payloads}
use Rattle.laws_run.proofs.pid_laws.numbered_payloads.Goals as goal

pub returns : goal.returns
returns c = numbered_payloads
