use Rattle.table_rounds.proofs.CarriedBytes.{table_carried}
use Rattle.table_rounds.proofs.laws.table_carried.Goals as goal

pub returns : goal.returns
returns c = table_carried
