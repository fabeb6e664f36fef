use Rattle.table_rounds.proofs.SilentTables.{silent_carousel_holds}
use Rattle.table_rounds.proofs.laws.silent_carousel.Goals as goal

pub returns : goal.returns
returns c = silent_carousel_holds
