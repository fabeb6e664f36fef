use Rattle.es_units.proofs.laws.taken_one_by_one.Goals as goal
use Rattle.es_units.proofs.QueueAcceptance.{taken_one_by_one}

pub returns : goal.returns
returns c = taken_one_by_one
