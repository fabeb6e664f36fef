use Rattle.on_air.proofs.Leaping.{leap_followed}
use Rattle.on_air.proofs.laws.leap_followed.Goals as goal

pub returns : goal.returns
returns c = leap_followed
