use Rattle.turns.proofs.TakenOver.{follows_law}
use Rattle.turns.proofs.laws.follows.Goals as goal

pub returns : goal.returns
returns c = follows_law
