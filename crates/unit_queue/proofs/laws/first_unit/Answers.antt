use Rattle.unit_queue.proofs.laws.first_unit.Goals as goal
use Rattle.unit_queue.proofs.QueueStates.{first_law}

pub returns : goal.returns
returns c = first_law
