use Rattle.mux_core.proofs.laws.transport.Goals as goal
use Rattle.slot_plan.specs.Schedule.{single}
use Rattle.mux_core.proofs.PlanPromises.{transport_fits}

pub returns : goal.returns
returns c = λ d p ranges serving. transport_fits d (single p.slots) (c.accepted_plan.ensures d p ranges serving)
