use Rattle.own_slots.proofs.windows.gap_walk.Goals as goal
use Rattle.own_slots.proofs.Gaps.{gap_walk_law}

pub returns : goal.returns
returns c = gap_walk_law
