use Rattle.turns.proofs.PidsOver.{joined_law}
use Rattle.turns.proofs.laws.joined.Goals as goal

pub returns : goal.returns
returns c = joined_law
