use Rattle.laws_run.proofs.pid_laws.nothing_comes_back.Goals as goal
use Rattle.laws_run.proofs.FoundInRun.{nothing_comes_back}

pub returns : goal.returns
returns c = nothing_comes_back
