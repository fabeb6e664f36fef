use Rattle.slot_plan.proofs.TextPlans.{begins_with_plan}
use Rattle.slot_plan.proofs.plan.Plan.read_text.Goals as goal

pub overflow_sub-bytes : goal.overflow_sub-bytes
overflow_sub-bytes g c = (begins_with_plan c.args.text.now _ c.in_ok-slots.rest.now c.in_ok-slots.ensures).0

pub invariant_of-plan : goal.invariant_of-plan
invariant_of-plan g c =
    ((begins_with_plan c.args.text.now _ c.in_ok-slots.rest.now c.in_ok-slots.ensures).1.is_plan.within, rw c.deref.ensures.value at c.links_of-links.ensures)

pub returns-clause-read : goal.returns-clause-read
returns-clause-read g c = (begins_with_plan c.args.text.now _ c.in_ok-slots.rest.now c.in_ok-slots.ensures).1
