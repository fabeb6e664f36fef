use Rattle.mux_core.proofs.laws.switch_main.Goals as goal
use Rattle.slot_plan.specs.Schedule.{switched}
use Rattle.mux_core.proofs.PlanPromises.{main_fits}

pub returns : goal.returns
returns c = λ d first second periods ranges serving switchable.
    main_fits d (switched first.slots periods second.slots) (c.accepted_switch.ensures d first second periods ranges serving switchable)
