use Rattle.laws_view.proofs.MuxedTableEvents.{job_table_events_law, run_table_events_law}
use Rattle.laws_view.proofs.laws.muxed_table_events.Goals as goal

pub returns-clause-run : goal.returns-clause-run
returns-clause-run c = run_table_events_law

pub returns-clause-jobs : goal.returns-clause-jobs
returns-clause-jobs c = job_table_events_law
