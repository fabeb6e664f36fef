use Rattle.stream_programs.proofs.laws.each_has_pids.Goals as goal
use Rattle.stream_programs.proofs.DistinctPids.{each_placed}

pub returns : goal.returns
returns c = each_placed
