use Rattle.laws_pipe.proofs.JoinedRuns.{joined_is_read}
use Rattle.laws_pipe.proofs.laws.joined_is_read.Goals as goal

pub returns : goal.returns
returns c = joined_is_read
