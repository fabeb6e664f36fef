use Rattle.mux_core.proofs.RoomForAll.{room_for_all}
use Rattle.mux_core.proofs.laws.room_for_all.Goals as goal

pub returns : goal.returns
returns c = room_for_all
