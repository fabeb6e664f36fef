use Rattle.laws_job.proofs.CarriedLoops.{loops_carried}
use Rattle.laws_job.proofs.laws.loops.Goals as goal

pub returns : goal.returns
returns c = loops_carried
