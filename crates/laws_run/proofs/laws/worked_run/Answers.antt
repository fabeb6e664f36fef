use Rattle.laws_run.proofs.WorkedRun.{worked_run}
use Rattle.laws_run.proofs.laws.worked_run.Goals as goal

pub returns : goal.returns
returns c = worked_run c.accepted_plan.ensures
