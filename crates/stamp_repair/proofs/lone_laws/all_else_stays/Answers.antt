use Rattle.stamp_repair.proofs.DamagedFindings.{all_else}
use Rattle.stamp_repair.proofs.lone_laws.all_else_stays.Goals as goal

pub returns : goal.returns
returns c = all_else
