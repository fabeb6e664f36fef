use Rattle.own_slots.proofs.rounds.recurrence.Goals as goal
use Rattle.own_slots.proofs.Recurrence.{recurrence_law}

pub returns : goal.returns
returns c = recurrence_law
