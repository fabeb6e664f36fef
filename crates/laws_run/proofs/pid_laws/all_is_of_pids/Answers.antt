use Rattle.laws_run.proofs.pid_laws.all_is_of_pids.Goals as goal
use Rattle.laws_run.proofs.OfPids.{all_is_of_pids}

pub returns : goal.returns
returns c = all_is_of_pids
