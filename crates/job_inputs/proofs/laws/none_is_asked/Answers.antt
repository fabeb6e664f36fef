use Rattle.job_inputs.proofs.laws.none_is_asked.Goals as goal
use Rattle.job_inputs.proofs.AskedMarks.{none_asked}

pub returns : goal.returns
returns c = none_asked
