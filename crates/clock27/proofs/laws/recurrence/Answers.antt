use Rattle.clock27.proofs.Scale.{limit_law}
use Rattle.clock27.proofs.laws.recurrence.Goals as goal

pub returns : goal.returns
returns c = limit_law
