use Rattle.laws_view.proofs.HomeTables.{job_homes_law, run_homes_law}
use Rattle.laws_view.proofs.laws.muxed_homes.Goals as goal

pub returns-clause-run : goal.returns-clause-run
returns-clause-run c = run_homes_law

pub returns-clause-jobs : goal.returns-clause-jobs
returns-clause-jobs c = job_homes_law
