use Rattle.laws_run.proofs.pid_laws.units_come_back.Goals as goal
use Rattle.laws_run.proofs.FoundInRun.{units_come_back}

pub returns : goal.returns
returns c = units_come_back
