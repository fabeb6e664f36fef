use Rattle.demux.proofs.WholeStream.{packets_decide}
use Rattle.demux.proofs.laws.packets_decide.Goals as goal

pub returns : goal.returns
returns c = packets_decide
