use Rattle.unit_timing.proofs.TransportBuffer.{transport_room}
use Rattle.unit_timing.proofs.transport.room.Goals as goal

pub returns : goal.returns
returns c = transport_room
