use Rattle.laws_job.proofs.WorkedJob.{worked_job}
use Rattle.laws_job.proofs.laws.worked_job.Goals as goal

pub returns : goal.returns
returns c = worked_job
