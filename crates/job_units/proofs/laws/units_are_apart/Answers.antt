use Rattle.job_units.proofs.FrameRests.{apart_by_least}
use Rattle.job_units.proofs.laws.units_are_apart.Goals as goal

pub returns : goal.returns
returns c = apart_by_least
