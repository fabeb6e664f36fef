use Rattle.mux_core.proofs.EventSteps.{order_is_free}
use Rattle.mux_core.proofs.laws.order_is_free.Goals as goal

pub returns : goal.returns
returns c = order_is_free
