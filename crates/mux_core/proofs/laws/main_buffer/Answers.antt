use Rattle.mux_core.proofs.laws.main_buffer.Goals as goal
use Rattle.slot_plan.specs.Schedule.{single}
use Rattle.mux_core.proofs.PlanPromises.{main_fits}

pub returns : goal.returns
returns c = λ d p ranges serving. main_fits d (single p.slots) (c.accepted_plan.ensures d p ranges serving)
