use Rattle.unit_queue.proofs.laws.accepted_unit.Goals as goal
use Rattle.unit_queue.proofs.QueueStates.{fed_law}

pub returns : goal.returns
returns c = fed_law
