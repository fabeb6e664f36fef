use Rattle.turns.proofs.NextTurns.{goes_on}
use Rattle.turns.proofs.laws.goes_on.Goals as goal

pub returns : goal.returns
returns c = goes_on
