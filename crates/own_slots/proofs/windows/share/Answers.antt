use Rattle.own_slots.proofs.windows.share.Goals as goal
use Rattle.own_slots.proofs.Spread.{share_law}

pub returns : goal.returns
returns c = share_law
