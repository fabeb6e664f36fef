use Rattle.demux.proofs.WholeStream.{pieces_join}
use Rattle.demux.proofs.laws.pieces_join.Goals as goal

pub returns : goal.returns
returns c = pieces_join
