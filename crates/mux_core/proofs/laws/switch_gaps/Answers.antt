use Rattle.mux_core.proofs.laws.switch_gaps.Goals as goal
use Rattle.slot_plan.specs.Schedule.{switched}
use Rattle.mux_core.proofs.PlanPromises.{pcrs_recur, sections_recur}

pub returns-clause-pcrs : goal.returns-clause-pcrs
returns-clause-pcrs c = λ d first second periods ranges serving switchable.
    pcrs_recur d (switched first.slots periods second.slots) (c.accepted_switch.ensures d first second periods ranges serving switchable)

pub returns-clause-sections : goal.returns-clause-sections
returns-clause-sections c = λ d first second periods ranges serving switchable.
    sections_recur d (switched first.slots periods second.slots) (c.accepted_switch.ensures d first second periods ranges serving switchable)
