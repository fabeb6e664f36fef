use Rattle.std.proofs.Common.{◌≡◌, ◌+◌, ◌*◌, ◌/◌, ℕ, Bool, length, get_or, arith, ap, sym, ◌∙◌}
use Rattle.std.proofs.lemmas.List.{get_or_default}
use Rattle.slot_plan.specs.declared.slot.Slot.TheVariants.{Null}
use Rattle.plan_maker.specs.FirstNumbers.{every}
use Rattle.plan_maker.specs.PlainPlan.{is_null}
use Rattle.plan_maker.proofs.FirstNumbers.{every_none, every_more, every_fails}
use Rattle.plan_maker.proofs.GivenSlots.{within_period}
use Rattle.plan_maker.proofs.free_slots.is_free.Goals as goal

pub loop-step-init : goal.loop-step-init
loop-step-init c = every_none (λ j. is_null (get_or c.args.slots.now (c.args.first + j * c.args.spacing) Null))

pub returns-then-not-is_null : goal.returns-then-not-is_null
returns-then-not-is_null c =
    let free : ℕ → Bool = λ j. is_null (get_or c.args.slots.now (c.args.first + j * c.args.spacing) Null) in
    let lt = within_period (length c.args.slots.now) c.args.spacing c.args.first c.loop-step.step c.requires.positive c.requires.within c.loop-step-test.true in
    let here = c.is_null.ensures ∙ ap is_null (get_or_default c.args.slots.now (c.args.first + c.loop-step.step * c.args.spacing) _ Null lt) in
    sym (every_fails (length c.args.slots.now / c.args.spacing) free c.loop-step.step c.loop-step-test.true (sym here ∙ c.if-not-is_null.true))

pub loop-step-preserved : goal.loop-step-preserved
loop-step-preserved c =
    let free : ℕ → Bool = λ j. is_null (get_or c.args.slots.now (c.args.first + j * c.args.spacing) Null) in
    let lt = within_period (length c.args.slots.now) c.args.spacing c.args.first c.loop-step.step c.requires.positive c.requires.within c.loop-step-test.true in
    let here = c.is_null.ensures ∙ ap is_null (get_or_default c.args.slots.now (c.args.first + c.loop-step.step * c.args.spacing) _ Null lt) in
    every_more c.loop-step.step free c.loop-step.invariant (sym here ∙ c.if-not-is_null.false)

pub returns : goal.returns
returns c =
    let free : ℕ → Bool = λ j. is_null (get_or c.args.slots.now (c.args.first + j * c.args.spacing) Null) in
    let end : length c.args.slots.now / c.args.spacing ≡ c.loop-step.step = omega (arith, c.loop-step-test.false, c.loop-step.auto.step-end) in
    sym (ap (λ (n : ℕ). every n free) end ∙ c.loop-step.invariant)
