use Rattle.mux_core.proofs.MeasuredRuns.{measured}
use Rattle.mux_core.proofs.laws.measured.Goals as goal

pub returns : goal.returns
returns c = measured
