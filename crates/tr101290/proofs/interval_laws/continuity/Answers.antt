use Rattle.tr101290.proofs.Continuities.{continuity_law}
use Rattle.tr101290.proofs.interval_laws.continuity.Goals as goal

pub returns : goal.returns
returns c = continuity_law
