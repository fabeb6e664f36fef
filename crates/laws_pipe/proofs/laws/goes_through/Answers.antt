use Rattle.laws_pipe.proofs.PipedRuns.{the_pipe}
use Rattle.laws_pipe.proofs.laws.goes_through.Goals as goal

pub returns : goal.returns
returns c = the_pipe c.accepted.ensures c.found_again.ensures.moved
