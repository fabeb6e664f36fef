use Rattle.table_rounds.proofs.Places.{place_law}
use Rattle.table_rounds.proofs.laws.places.Goals as goal

pub returns : goal.returns
returns c = place_law
