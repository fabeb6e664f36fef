use Rattle.packet_sync.proofs.WholeStreams.{carried_whole}
use Rattle.packet_sync.proofs.laws.carried_in_step.Goals as goal

pub returns : goal.returns
returns c = carried_whole
