use Rattle.job_run.proofs.Reported.{stays}
use Rattle.job_run.proofs.laws.status_stays.Goals as goal

pub returns : goal.returns
returns c = stays
