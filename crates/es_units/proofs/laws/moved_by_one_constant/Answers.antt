use Rattle.es_units.proofs.laws.moved_by_one_constant.Goals as goal
use Rattle.es_moments.proofs.StampMoments.{moved_by_one}

pub returns : goal.returns
returns c = moved_by_one
