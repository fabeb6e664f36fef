use Rattle.laws_view.proofs.MuxedFrames.{job_frames_law, run_frames_law}
use Rattle.laws_view.proofs.laws.muxed_frames.Goals as goal

pub returns-clause-run : goal.returns-clause-run
returns-clause-run c = run_frames_law

pub returns-clause-jobs : goal.returns-clause-jobs
returns-clause-jobs c = job_frames_law
