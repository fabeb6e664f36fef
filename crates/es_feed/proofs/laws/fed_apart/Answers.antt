use Rattle.es_feed.proofs.MovedApart.{fed_apart}
use Rattle.es_feed.proofs.laws.fed_apart.Goals as goal

pub returns : goal.returns
returns c = fed_apart
