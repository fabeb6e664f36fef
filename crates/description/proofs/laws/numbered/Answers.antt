use Rattle.description.proofs.Versions.{numbered_law}
use Rattle.description.proofs.laws.numbered.Goals as goal

pub returns : goal.returns
returns c = numbered_law
