use Rattle.table_rounds.proofs.SectionStarts.{begins}
use Rattle.table_rounds.proofs.laws.begins.Goals as goal

pub returns : goal.returns
returns c = begins
