use Rattle.stream_programs.proofs.laws.pids_are_distinct.Goals as goal
use Rattle.stream_programs.proofs.DistinctPids.{are_apart}

pub returns : goal.returns
returns c = are_apart
