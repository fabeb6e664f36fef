use Rattle.demux.proofs.WholeStream.{each_pid_alone}
use Rattle.demux.proofs.laws.each_pid_alone.Goals as goal

pub returns : goal.returns
returns c = each_pid_alone
