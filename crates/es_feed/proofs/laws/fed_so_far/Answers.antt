use Rattle.es_feed.proofs.FedStreams.{is_beginning}
use Rattle.es_feed.proofs.laws.fed_so_far.Goals as goal

pub returns : goal.returns
returns c = is_beginning
