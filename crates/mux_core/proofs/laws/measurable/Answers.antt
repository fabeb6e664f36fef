use Rattle.mux_core.proofs.MeasurableRuns.{measurable}
use Rattle.mux_core.proofs.laws.measurable.Goals as goal

pub returns : goal.returns
returns c = measurable
