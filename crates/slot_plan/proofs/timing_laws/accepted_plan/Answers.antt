use Rattle.slot_plan.proofs.OnePlan.{plan_law}
use Rattle.slot_plan.proofs.timing_laws.accepted_plan.Goals as goal

pub returns : goal.returns
returns c = plan_law c.own_slots.ensures
