use Rattle.unit_queue.proofs.laws.own_slot.Goals as goal
use Rattle.unit_queue.proofs.QueueStates.{own_slot_law}

pub returns : goal.returns
returns c = own_slot_law
