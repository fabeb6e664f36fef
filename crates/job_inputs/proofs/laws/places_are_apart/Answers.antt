use Rattle.job_inputs.proofs.laws.places_are_apart.Goals as goal
use Rattle.job_inputs.proofs.NewNumbersApart.{places_apart}

pub returns : goal.returns
returns c = places_apart
