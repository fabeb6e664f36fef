use Rattle.laws_run.proofs.TablesAndStreams.{tables_come_back}
use Rattle.laws_run.proofs.carried.tables_come_back.Goals as goal

pub returns : goal.returns
returns c = tables_come_back
