use Rattle.stamp_repair.proofs.FoundStamps.{lone_found}
use Rattle.stamp_repair.proofs.lone_laws.lone_is_found.Goals as goal

pub returns : goal.returns
returns c = lone_found
