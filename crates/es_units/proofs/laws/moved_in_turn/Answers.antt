use Rattle.es_units.proofs.MovedUnits.{moved_in_turn}
use Rattle.es_units.proofs.laws.moved_in_turn.Goals as goal

pub returns : goal.returns
returns c = moved_in_turn
