use Rattle.own_slots.proofs.windows.gaps.Goals as goal
use Rattle.own_slots.proofs.Gaps.{gap_law}

pub returns : goal.returns
returns c = gap_law
