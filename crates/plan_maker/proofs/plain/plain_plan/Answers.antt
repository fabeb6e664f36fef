use Rattle.plan_maker.proofs.SpacingBound.{few_slots}
use Rattle.plan_maker.proofs.plain.plain_plan.Goals as goal

pub plain_slots-requires : goal.plain_slots-requires
plain_slots-requires g c = rw (c.deref.ensures.value, c.in_ok-items.ensures) (few_slots c.args.description.now)
