use Rattle.stamp_repair.proofs.PidsApart.{pid_alone}
use Rattle.stamp_repair.proofs.lone_laws.each_pid_alone.Goals as goal

pub returns : goal.returns
returns c = pid_alone
