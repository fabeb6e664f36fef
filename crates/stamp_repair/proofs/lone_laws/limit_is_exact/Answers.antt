use Rattle.stamp_repair.proofs.DamageLimits.{limit_exact}
use Rattle.stamp_repair.proofs.lone_laws.limit_is_exact.Goals as goal

pub returns : goal.returns
returns c = limit_exact
