use Rattle.std.proofs.Common.{refl}
use Rattle.packet_sync.proofs.Fronts.{none_searched}
use Rattle.packet_sync.proofs.five_search.FiveSearch.new.Goals as goal

pub returns : goal.returns
returns c = λ bytes none. none_searched bytes _ none refl refl c.new.ensures.items
