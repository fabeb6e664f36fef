use Rattle.laws_run.proofs.TablesAndStreams.{tables_carry}
use Rattle.laws_run.proofs.carried.tables_carry.Goals as goal

pub returns : goal.returns
returns c = tables_carry
