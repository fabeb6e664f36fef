use Rattle.stamp_repair.proofs.AloneStamps.{each_alone}
use Rattle.stamp_repair.proofs.lone_laws.each_is_alone.Goals as goal

pub returns : goal.returns
returns c = each_alone
