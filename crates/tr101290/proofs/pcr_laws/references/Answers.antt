use Rattle.tr101290.proofs.Clocks.{clock_law}
use Rattle.tr101290.proofs.pcr_laws.references.Goals as goal

pub returns : goal.returns
returns c = clock_law
