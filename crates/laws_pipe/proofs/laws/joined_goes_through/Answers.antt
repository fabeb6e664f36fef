use Rattle.laws_pipe.proofs.JoinedRuns.{the_file_pipe}
use Rattle.laws_pipe.proofs.laws.joined_goes_through.Goals as goal

pub returns : goal.returns
returns c = the_file_pipe c.joined_accepted.ensures c.joined_again.ensures
