use Rattle.monitor.proofs.LatePlaces.{gaps_of_each_pid}
use Rattle.monitor.proofs.laws.gaps_of_each_pid.Goals as goal

pub returns : goal.returns
returns c = gaps_of_each_pid
