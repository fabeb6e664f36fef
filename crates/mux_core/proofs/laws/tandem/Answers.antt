use Rattle.mux_core.proofs.laws.tandem.Goals as goal
use Rattle.slot_plan.specs.Schedule.{single}
use Rattle.mux_core.proofs.PlanPromises.{system_fits}

pub returns : goal.returns
returns c = λ d p ranges serving. system_fits d (single p.slots) (c.accepted_plan.ensures d p ranges serving)
