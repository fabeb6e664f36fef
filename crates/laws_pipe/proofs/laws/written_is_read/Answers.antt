use Rattle.laws_pipe.proofs.PipedRuns.{written_is_read}
use Rattle.laws_pipe.proofs.laws.written_is_read.Goals as goal

pub returns : goal.returns
returns c = written_is_read
