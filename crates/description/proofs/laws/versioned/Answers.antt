use Rattle.description.proofs.Versions.{versioned_law}
use Rattle.description.proofs.laws.versioned.Goals as goal

pub returns : goal.returns
returns c = versioned_law
