use Rattle.unit_queue.proofs.laws.cause_of_refusal.Goals as goal
use Rattle.unit_queue.proofs.QueueStates.{cause_law}

pub returns : goal.returns
returns c = cause_law
