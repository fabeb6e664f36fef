use Rattle.laws_view.proofs.SectionsApart.{job_distances_law, run_distances_law}
use Rattle.laws_view.proofs.laws.muxed_distances.Goals as goal

pub returns-clause-run : goal.returns-clause-run
returns-clause-run c = run_distances_law

pub returns-clause-jobs : goal.returns-clause-jobs
returns-clause-jobs c = job_distances_law
