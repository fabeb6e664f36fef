use Rattle.es_units.proofs.laws.nothing_is_lost.Goals as goal
use Rattle.es_units.proofs.Conservation.{nothing_lost}

pub returns : goal.returns
returns c = nothing_lost
