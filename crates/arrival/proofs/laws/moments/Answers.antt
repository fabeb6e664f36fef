use Rattle.arrival.proofs.Clocks.{moments}
use Rattle.arrival.proofs.laws.moments.Goals as goal

pub returns : goal.returns
returns c = moments
