use Rattle.on_air.proofs.laws.near_is_judged_alone.Goals as goal
use Rattle.on_air.proofs.Near.{near_is_judged_alone}

pub returns : goal.returns
returns c = near_is_judged_alone
