use Rattle.laws_run.proofs.pid_laws.sections_come_back.Goals as goal
use Rattle.laws_run.proofs.FoundInRun.{sections_come_back}

pub returns : goal.returns
returns c = sections_come_back
