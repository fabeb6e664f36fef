use Rattle.std.proofs.Common.{◌≡◌, ℕ, Option, length, arith, ap, ap₂, sym, subst, ◌∙◌}
use Rattle.std.specs.Prelude.{min, IfSome, ◌<◌}
use Rattle.own_slots.proofs.Extremes.{least_none, least_more}
use Rattle.plan_maker.specs.Bounded.{most_long}
use Rattle.plan_maker.specs.Placements.{due_number, first_least}
use Rattle.plan_maker.proofs.PlacedSlots.{first_least_none, first_least_more, first_least_below, due_is}
use Rattle.plan_maker.proofs.search.placement.most_urgent.Goals as goal

pub loop-i-init : goal.loop-i-init
loop-i-init c =
    let f = due_number c.args.tasks.now c.args.at in
    record { least = sym (least_none most_long f); urgent = sym (first_least_none f) }

pub loop-i-preserved : goal.loop-i-preserved
loop-i-preserved c =
    let f = due_number c.args.tasks.now c.args.at in
    let i = c.loop-i.i in
    let due : c.due_at-due.result ≡ f i = c.due_at-due.ensures ∙ due_is c.args.tasks.now c.args.at i _ c.loop-i-test.true in
    record {
      least = c.lesser-least.ensures ∙ ap₂ min c.loop-i.invariant.least due ∙ sym (least_more most_long i f);
      urgent = c.earlier-urgent.ensures ∙ first_least_more i f c.due_at-due.result c.loop-i.least c.loop-i.urgent due c.loop-i.invariant.least
          c.loop-i.invariant.urgent;
    }

pub returns : goal.returns
returns c =
    let f = due_number c.args.tasks.now c.args.at in
    let end : c.loop-i.i ≡ length c.args.tasks.now = omega arith in
    let urgent = c.loop-i.invariant.urgent ∙ ap (λ (n : ℕ). first_least n f) end in
    record {
      urgent = urgent;
      within = subst (λ (o : Option ℕ). IfSome o (λ i. i < length c.args.tasks.now)) (sym urgent) (first_least_below (length c.args.tasks.now) f);
    }
