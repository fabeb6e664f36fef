use Rattle.demux.proofs.KeptBodies.{others_decide_nothing}
use Rattle.demux.proofs.laws.others_decide_nothing.Goals as goal

pub returns : goal.returns
returns c = others_decide_nothing
