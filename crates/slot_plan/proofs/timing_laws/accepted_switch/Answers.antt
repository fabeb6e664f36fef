use Rattle.slot_plan.proofs.TwoPlans.{switch_law}
use Rattle.slot_plan.proofs.timing_laws.accepted_switch.Goals as goal

pub returns : goal.returns
returns c = switch_law c.own_slots.ensures
