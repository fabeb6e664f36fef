use Rattle.tstd_rows.proofs.ConstantRates.{constant_rate_law, in_time_law}
use Rattle.tstd_rows.proofs.view_laws.constant_rate.Goals as goal

pub returns-clause-figures : goal.returns-clause-figures
returns-clause-figures c = constant_rate_law

pub returns-clause-in_time : goal.returns-clause-in_time
returns-clause-in_time c = in_time_law
