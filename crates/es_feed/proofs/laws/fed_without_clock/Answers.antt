use Rattle.es_feed.proofs.FedPackets.{without_clock}
use Rattle.es_feed.proofs.laws.fed_without_clock.Goals as goal

pub returns : goal.returns
returns c = without_clock
