use Rattle.on_air.proofs.laws.leap_moves_on.Goals as goal
use Rattle.on_air.proofs.Leaping.{leap_moves_on}

pub returns : goal.returns
returns c = leap_moves_on
