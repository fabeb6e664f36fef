use Rattle.description.proofs.SameTables.{same_tables_law}
use Rattle.description.proofs.laws.same_tables.Goals as goal

pub returns : goal.returns
returns c = same_tables_law
