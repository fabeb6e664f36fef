use Rattle.stamp_repair.proofs.OrderedStamps.{ordered}
use Rattle.stamp_repair.proofs.lone_laws.ordered_stays.Goals as goal

pub returns : goal.returns
returns c = ordered
