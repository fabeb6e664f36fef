use Rattle.table_rounds.proofs.Places.{place_found}
use Rattle.table_rounds.proofs.laws.place_found.Goals as goal

pub returns : goal.returns
returns c = place_found
