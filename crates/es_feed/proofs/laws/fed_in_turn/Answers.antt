use Rattle.fed_streams.proofs.FedUnits.{in_turn}
use Rattle.es_feed.proofs.laws.fed_in_turn.Goals as goal

pub returns : goal.returns
returns c = in_turn
