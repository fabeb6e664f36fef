use Rattle.es_feed.proofs.EachStream.{by_one_constant}
use Rattle.es_feed.proofs.laws.fed_by_one_constant.Goals as goal

pub returns : goal.returns
returns c = by_one_constant
