use Rattle.laws_view.proofs.AsMeasured.{job_as_measured_law, run_as_measured_law}
use Rattle.laws_view.proofs.ClockComes.{job_late_as_measured_law, run_late_as_measured_law}
use Rattle.laws_view.proofs.laws.muxed_as_measured.Goals as goal

pub returns-clause-run : goal.returns-clause-run
returns-clause-run c = run_as_measured_law

pub returns-clause-jobs : goal.returns-clause-jobs
returns-clause-jobs c = job_as_measured_law

pub returns-clause-late_run : goal.returns-clause-late_run
returns-clause-late_run c = run_late_as_measured_law

pub returns-clause-late_jobs : goal.returns-clause-late_jobs
returns-clause-late_jobs c = job_late_as_measured_law
