use Rattle.laws_view.proofs.MuxedStreams.{job_no_excess_law, muxed_stream_law}
use Rattle.laws_view.proofs.laws.muxed_streams.Goals as goal

pub returns-clause-whole : goal.returns-clause-whole
returns-clause-whole c = muxed_stream_law

pub returns-clause-jobs : goal.returns-clause-jobs
returns-clause-jobs c = job_no_excess_law
