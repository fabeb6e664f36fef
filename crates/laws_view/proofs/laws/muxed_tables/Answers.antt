use Rattle.laws_view.proofs.MuxedTables.{job_tables_law, run_tables_law}
use Rattle.laws_view.proofs.laws.muxed_tables.Goals as goal

pub returns-clause-run : goal.returns-clause-run
returns-clause-run c = run_tables_law

pub returns-clause-jobs : goal.returns-clause-jobs
returns-clause-jobs c = job_tables_law
