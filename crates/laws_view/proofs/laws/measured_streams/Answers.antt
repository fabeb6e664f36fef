use Rattle.laws_view.proofs.MeasuredStreams.{measured_stream_law}
use Rattle.laws_view.proofs.laws.measured_streams.Goals as goal

pub returns : goal.returns
returns c = measured_stream_law
