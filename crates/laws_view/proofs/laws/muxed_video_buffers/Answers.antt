use Rattle.laws_view.proofs.MuxedLeaks.{job_multiplexing_law, run_multiplexing_law}
use Rattle.laws_view.proofs.MuxedVideo.{job_elementary_law, run_elementary_law}
use Rattle.laws_view.proofs.laws.muxed_video_buffers.Goals as goal

pub returns-clause-run : goal.returns-clause-run
returns-clause-run c = run_elementary_law

pub returns-clause-jobs : goal.returns-clause-jobs
returns-clause-jobs c = job_elementary_law

pub returns-clause-multiplexing : goal.returns-clause-multiplexing
returns-clause-multiplexing c = run_multiplexing_law

pub returns-clause-jobs_multiplexing : goal.returns-clause-jobs_multiplexing
returns-clause-jobs_multiplexing c = job_multiplexing_law
