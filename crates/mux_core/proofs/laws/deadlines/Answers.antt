use Rattle.mux_core.proofs.laws.deadlines.Goals as goal
use Rattle.slot_plan.specs.Schedule.{single}
use Rattle.mux_core.proofs.PlanPromises.{units_arrive}

pub returns : goal.returns
returns c = λ d p ranges serving. units_arrive d (single p.slots) (c.accepted_plan.ensures d p ranges serving)
