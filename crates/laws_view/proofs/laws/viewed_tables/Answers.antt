use Rattle.laws_view.proofs.MuxedTableEvents.{viewed_tables_law}
use Rattle.laws_view.proofs.laws.viewed_tables.Goals as goal

pub returns : goal.returns
returns c = viewed_tables_law
