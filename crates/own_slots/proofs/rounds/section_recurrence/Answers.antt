use Rattle.own_slots.proofs.rounds.section_recurrence.Goals as goal
use Rattle.own_slots.proofs.Recurrence.{table_law}

pub returns : goal.returns
returns c = table_law
