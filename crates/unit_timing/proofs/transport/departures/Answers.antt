use Rattle.unit_timing.proofs.NotEarly.{none_leaves_early_law}
use Rattle.unit_timing.proofs.transport.departures.Goals as goal

pub returns : goal.returns
returns c = none_leaves_early_law
