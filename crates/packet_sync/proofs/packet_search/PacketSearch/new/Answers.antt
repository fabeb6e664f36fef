use Rattle.packet_sync.proofs.Fronts.{none_came}
use Rattle.packet_sync.proofs.packet_search.PacketSearch.new.Goals as goal

pub returns : goal.returns
returns c = λ bytes none. none_came bytes _ none c.new.ensures.items c.new-2.ensures
