use Rattle.unit_queue.proofs.laws.later_unit.Goals as goal
use Rattle.unit_queue.proofs.QueueStates.{later_unit_law}

pub returns : goal.returns
returns c = later_unit_law
