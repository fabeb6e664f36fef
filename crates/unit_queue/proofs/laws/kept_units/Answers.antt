use Rattle.unit_queue.proofs.laws.kept_units.Goals as goal
use Rattle.unit_queue.proofs.QueueStates.{kept_law}

pub returns : goal.returns
returns c = kept_law
