use Rattle.tr101290.proofs.WholeTicks.{whole_ticks_law}
use Rattle.tr101290.proofs.pcr_laws.places.Goals as goal

pub returns-clause-accurate : goal.returns-clause-accurate
returns-clause-accurate c = whole_ticks_law
