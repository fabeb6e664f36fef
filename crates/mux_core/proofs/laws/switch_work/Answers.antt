use Rattle.mux_core.proofs.laws.switch_work.Goals as goal
use Rattle.slot_plan.specs.Schedule.{switched}
use Rattle.mux_core.proofs.PlanPromises.{transport_fits, system_fits}

pub returns-clause-streams : goal.returns-clause-streams
returns-clause-streams c = λ d first second periods ranges serving switchable.
    transport_fits d (switched first.slots periods second.slots) (c.accepted_switch.ensures d first second periods ranges serving switchable)

pub returns-clause-programs : goal.returns-clause-programs
returns-clause-programs c = λ d first second periods ranges serving switchable.
    system_fits d (switched first.slots periods second.slots) (c.accepted_switch.ensures d first second periods ranges serving switchable)
