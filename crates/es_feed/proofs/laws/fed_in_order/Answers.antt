use Rattle.es_feed.proofs.EachStream.{each_rises, releases_rise}
use Rattle.es_feed.proofs.laws.fed_in_order.Goals as goal

pub returns-clause-rise : goal.returns-clause-rise
returns-clause-rise c = each_rises

pub returns-clause-release : goal.returns-clause-release
returns-clause-release c = releases_rise
