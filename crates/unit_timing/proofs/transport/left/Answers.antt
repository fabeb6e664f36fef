use Rattle.unit_timing.proofs.TransportBuffer.{left_law}
use Rattle.unit_timing.proofs.transport.left.Goals as goal

pub returns : goal.returns
returns c = left_law
