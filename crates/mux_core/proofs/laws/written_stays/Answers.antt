use Rattle.mux_core.proofs.EventSteps.{written_stays}
use Rattle.mux_core.proofs.laws.written_stays.Goals as goal

pub returns : goal.returns
returns c = written_stays
