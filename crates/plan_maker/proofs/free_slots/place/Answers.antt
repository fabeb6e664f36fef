use Rattle.std.proofs.Common.{arith, sym, ◌∙◌}
use Rattle.plan_maker.specs.PlainPlan.{is_free}
use Rattle.plan_maker.proofs.FirstNumbers.{first_below}
use Rattle.plan_maker.proofs.GivenSlots.{length-with_item}
use Rattle.plan_maker.proofs.SpacingOrder.{placed_one, not_placed_one, never, never_true}
use Rattle.plan_maker.proofs.free_slots.place.Goals as goal

pub give-requires : goal.give-requires
give-requires c =
    omega (arith, first_below c.args.item.spacing (is_free c.args.slots.now c.args.item.spacing) c.in-Some.first (sym c.first_free.ensures ∙ c.in-Some.is))

pub returns-in-None : goal.returns-in-None
returns-in-None c = record {
  given = λ e. never_true e;
  full = λ _. not_placed_one c.args.item c.args.slots.now (sym c.first_free.ensures ∙ c.in-None.is);
  same_length = omega arith;
}

pub returns-in-Some : goal.returns-in-Some
returns-in-Some c = record {
  given = λ _. rw c.give.ensures.slots (placed_one c.args.item c.args.slots.now c.in-Some.first (sym c.first_free.ensures ∙ c.in-Some.is));
  full = λ e. never e;
  same_length = rw c.give.ensures.slots (length-with_item c.args.item.slot c.args.item.spacing c.in-Some.first c.args.slots.now);
}
