use Rattle.laws_view.proofs.AfterTables.{job_first_law, job_late_units_law, run_first_law, run_late_units_law}
use Rattle.laws_view.proofs.laws.muxed_after_tables.Goals as goal

pub returns-clause-first : goal.returns-clause-first
returns-clause-first c = run_first_law

pub returns-clause-jobs_first : goal.returns-clause-jobs_first
returns-clause-jobs_first c = job_first_law

pub returns-clause-run : goal.returns-clause-run
returns-clause-run c = run_late_units_law

pub returns-clause-jobs : goal.returns-clause-jobs
returns-clause-jobs c = job_late_units_law
