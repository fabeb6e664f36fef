use Rattle.job_inputs.proofs.laws.joined_are_apart.Goals as goal
use Rattle.job_inputs.proofs.JoinedApart.{joined_apart}

pub returns : goal.returns
returns c = joined_apart
