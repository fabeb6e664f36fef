use Rattle.es_feed.proofs.DamagedReferences.{moves_nothing}
use Rattle.es_feed.proofs.laws.damage_moves_nothing.Goals as goal

pub returns : goal.returns
returns c = moves_nothing
