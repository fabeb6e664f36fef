use Rattle.laws_view.proofs.MuxedMain.{job_main_law, run_main_law}
use Rattle.laws_view.proofs.laws.muxed_main_buffers.Goals as goal

pub returns-clause-run : goal.returns-clause-run
returns-clause-run c = run_main_law

pub returns-clause-jobs : goal.returns-clause-jobs
returns-clause-jobs c = job_main_law
