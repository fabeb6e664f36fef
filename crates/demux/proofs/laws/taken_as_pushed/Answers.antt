use Rattle.demux.proofs.PushedBytes.{taken_as_pushed}
use Rattle.demux.proofs.laws.taken_as_pushed.Goals as goal

pub returns : goal.returns
returns c = taken_as_pushed
