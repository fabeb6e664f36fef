use Rattle.laws_run.proofs.CleanPackets.{by_pids}
use Rattle.laws_run.proofs.pid_laws.by_pids.Goals as goal

pub returns : goal.returns
returns c = by_pids
