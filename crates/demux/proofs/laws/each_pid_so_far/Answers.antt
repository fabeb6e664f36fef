use Rattle.demux.proofs.FoundSoFar.{pid_found_so_far}
use Rattle.demux.proofs.laws.each_pid_so_far.Goals as goal

pub returns : goal.returns
returns c = pid_found_so_far
