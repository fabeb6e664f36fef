use Rattle.packet_sync.proofs.WholeStreams.{nothing_else}
use Rattle.packet_sync.proofs.laws.nothing_else_is_left_out.Goals as goal

pub returns : goal.returns
returns c = nothing_else
