use Rattle.fed_streams.proofs.FedTicks.{are_past}
use Rattle.es_feed.proofs.laws.ticks_are_past.Goals as goal

pub returns : goal.returns
returns c = are_past
