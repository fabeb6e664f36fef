use Rattle.ts_tables.proofs.First.{first_law}
use Rattle.ts_tables.proofs.laws.first_tables.Goals as goal

pub returns : goal.returns
returns c = first_law
