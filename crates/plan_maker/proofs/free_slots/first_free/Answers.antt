use Rattle.std.proofs.Common.{◌≡◌, ℕ, arith, sym, ap, ◌∙◌}
use Rattle.plan_maker.specs.FirstNumbers.{first_of}
use Rattle.plan_maker.specs.PlainPlan.{is_free}
use Rattle.plan_maker.proofs.FirstNumbers.{first_none, first_not_yet, first_here}
use Rattle.plan_maker.proofs.free_slots.first_free.Goals as goal

pub loop-first-init : goal.loop-first-init
loop-first-init c = first_none (is_free c.args.slots.now c.args.spacing)

pub loop-first-preserved : goal.loop-first-preserved
loop-first-preserved c =
    first_not_yet c.loop-first.first (is_free c.args.slots.now c.args.spacing) c.loop-first.invariant (sym c.is_free.ensures ∙ c.if-is_free.false)

pub returns-then-is_free : goal.returns-then-is_free
returns-then-is_free c =
    sym (first_here c.args.spacing (is_free c.args.slots.now c.args.spacing) c.loop-first.first c.loop-first-test.true c.loop-first.invariant
    (sym c.is_free.ensures ∙ c.if-is_free.true))

pub returns : goal.returns
returns c =
    let end : c.loop-first.first ≡ c.args.spacing = omega arith in
    sym (ap (λ (n : ℕ). first_of n (is_free c.args.slots.now c.args.spacing)) (sym end) ∙ c.loop-first.invariant)
