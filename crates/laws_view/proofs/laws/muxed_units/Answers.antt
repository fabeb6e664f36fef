use Rattle.laws_view.proofs.MuxedLate.{job_late_law, run_late_law}
use Rattle.laws_view.proofs.laws.muxed_units.Goals as goal

pub returns-clause-run : goal.returns-clause-run
returns-clause-run c = run_late_law

pub returns-clause-jobs : goal.returns-clause-jobs
returns-clause-jobs c = job_late_law
