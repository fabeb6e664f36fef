use Rattle.es_feed.proofs.OneStream.{as_carried}
use Rattle.es_feed.proofs.laws.fed_as_carried.Goals as goal

pub returns : goal.returns
returns c = as_carried
