use Rattle.laws_run.proofs.TablesFirst.{tables_first}
use Rattle.laws_run.proofs.laws.tables_first.Goals as goal

pub returns : goal.returns
returns c = tables_first
