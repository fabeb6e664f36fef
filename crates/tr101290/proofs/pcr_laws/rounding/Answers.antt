use Rattle.tr101290.proofs.Rounding.{rounded_up_law, interval_law, inaccuracy_law}
use Rattle.tr101290.proofs.pcr_laws.rounding.Goals as goal

pub returns-clause-values : goal.returns-clause-values
returns-clause-values c = rounded_up_law

pub returns-clause-intervals : goal.returns-clause-intervals
returns-clause-intervals c = interval_law

pub returns-clause-inaccuracies : goal.returns-clause-inaccuracies
returns-clause-inaccuracies c = inaccuracy_law
