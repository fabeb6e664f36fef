use Rattle.es_units.proofs.laws.constant_is_least.Goals as goal
use Rattle.es_moments.proofs.StampMoments.{constant_least}

pub returns : goal.returns
returns c = constant_least
