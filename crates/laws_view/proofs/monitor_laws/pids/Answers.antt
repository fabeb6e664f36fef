use Rattle.laws_view.proofs.FaultPids.{pid_law}
use Rattle.laws_view.proofs.monitor_laws.pids.Goals as goal

pub returns : goal.returns
returns c = pid_law
