use Rattle.unit_queue.proofs.laws.other_slot.Goals as goal
use Rattle.unit_queue.proofs.QueueStates.{other_slot_law}

pub returns : goal.returns
returns c = other_slot_law
