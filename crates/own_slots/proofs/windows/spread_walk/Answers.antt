use Rattle.own_slots.proofs.windows.spread_walk.Goals as goal
use Rattle.own_slots.proofs.Spread.{spread_walk_law}

pub returns : goal.returns
returns c = spread_walk_law
