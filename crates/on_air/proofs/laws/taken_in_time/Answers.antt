use Rattle.on_air.proofs.InTime.{taken_in_time}
use Rattle.on_air.proofs.laws.taken_in_time.Goals as goal

pub returns : goal.returns
returns c = taken_in_time
