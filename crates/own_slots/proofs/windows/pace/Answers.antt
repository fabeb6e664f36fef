use Rattle.own_slots.proofs.windows.pace.Goals as goal
use Rattle.own_slots.proofs.Spread.{rate_law}

pub returns : goal.returns
returns c = rate_law
