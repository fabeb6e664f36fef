use Rattle.own_slots.proofs.rounds.pcr_recurrence.Goals as goal
use Rattle.own_slots.proofs.Recurrence.{pcr_law}

pub returns : goal.returns
returns c = pcr_law
