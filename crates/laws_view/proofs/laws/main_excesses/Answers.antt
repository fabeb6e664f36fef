use Rattle.laws_view.proofs.MainExcesses.{no_main_excess_law, timed_no_excess_law}
use Rattle.laws_view.proofs.laws.main_excesses.Goals as goal

pub returns-clause-timed : goal.returns-clause-timed
returns-clause-timed c = timed_no_excess_law

pub returns-clause-rate : goal.returns-clause-rate
returns-clause-rate c = no_main_excess_law
