use Rattle.own_slots.proofs.rounds.round_places.Goals as goal
use Rattle.own_slots.proofs.Recurrence.{round_law}

pub returns : goal.returns
returns c = round_law
