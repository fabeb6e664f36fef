use Rattle.std.proofs.Common.{◌≤◌, ◌^◌, refl, arith, ◌∙◌}
use Rattle.std.proofs.Math.Pow.{pow_mono}
use Rattle.std.proofs.lemmas.Grind.{pow_more}
use Rattle.plan_maker.proofs.SpacingOrder.{spacing_placed, spacing_full, spacings_placed, never, never_true}
use Rattle.plan_maker.proofs.item_order.place_items.Goals as goal

pub loop-exponent-init : goal.loop-exponent-init
loop-exponent-init c = record { power = refl; rest = refl; same = refl }

pub overflow_mul-power : goal.overflow_mul-power
overflow_mul-power c =
    let few : 2 ^ c.loop-exponent.exponent ≤ 2 ^ 16 = pow_mono {j = 16} (omega (arith, c.loop-exponent-test.true)) in
    record { fits = omega (arith, c.loop-exponent.invariant.power, few) }

pub loop-exponent-preserved : goal.loop-exponent-preserved
loop-exponent-preserved c =
    let inv = c.loop-exponent.invariant in
    let e = c.loop-exponent.exponent in
    record {
      power = omega (arith, inv.power, pow_more 2 e);
      rest = spacing_placed c.args.items.now e c.loop-exponent.power c.loop-exponent.slots _ c.loop-exponent-test.true inv.power inv.rest _
          (c.place_spacing.ensures.given c.if-not-place_spacing.false);
      same = c.place_spacing.ensures.same_length ∙ inv.same;
    }

pub returns-then-not-place_spacing : goal.returns-then-not-place_spacing
returns-then-not-place_spacing c =
    let inv = c.loop-exponent.invariant in
    record {
      given = λ e. never_true e;
      full = λ _. spacing_full c.args.items.now c.loop-exponent.exponent c.loop-exponent.power c.loop-exponent.slots _ c.loop-exponent-test.true inv.power
          inv.rest
          (c.place_spacing.ensures.full c.if-not-place_spacing.true);
      same_length = c.place_spacing.ensures.same_length ∙ inv.same;
    }

pub returns : goal.returns
returns c = record {
  given = λ _. spacings_placed c.args.items.now c.loop-exponent.exponent c.loop-exponent.slots _ c.loop-exponent-test.false c.loop-exponent.invariant.rest;
  full = λ e. never e;
  same_length = c.loop-exponent.invariant.same;
}
