use Rattle.std.proofs.Common.{◌≡◌, ◌^◌, ◌≤◌, ℕ, max, arith, refl, ap, ap₂, sym, ◌∙◌}
use Rattle.std.proofs.Math.Pow.{pow_mono}
use Rattle.std.proofs.lemmas.Grind.{pow_more}
use Rattle.own_slots.specs.Extremes.{greatest}
use Rattle.own_slots.proofs.Extremes.{greatest_none, greatest_more}
use Rattle.clock27.proofs.MinMax.{max_is}
use Rattle.plan_maker.specs.Spacings.{within}
use Rattle.plan_maker.proofs.spacing.spacing_of.Goals as goal

pub loop-exponent-init : goal.loop-exponent-init
loop-exponent-init c = record { power = refl; spacing = sym (greatest_none (λ e. within c.args.room (2 ^ e))); few = omega arith }

pub overflow_mul-power : goal.overflow_mul-power
overflow_mul-power c =
    let few : 2 ^ c.loop-exponent.exponent ≤ 2 ^ 16 = pow_mono {j = 16} (omega (arith, c.loop-exponent-test.true)) in
    record { fits = omega (arith, c.loop-exponent.invariant.power, few) }

pub loop-exponent-preserved : goal.loop-exponent-preserved
loop-exponent-preserved c =
    let inv = c.loop-exponent.invariant in
    let e = c.loop-exponent.exponent in
    let few : 2 ^ e ≤ 2 ^ 16 = pow_mono {j = 16} (omega (arith, c.loop-exponent-test.true)) in
    let more = c.max-spacing.ensures ∙ max_is c.loop-exponent.spacing c.within.result in
    record {
      power = omega (arith, inv.power, pow_more 2 e);
      spacing = more ∙ ap₂ max inv.spacing (c.within.ensures.within ∙ ap (within c.args.room) inv.power)
          ∙ sym (greatest_more e (λ e. within c.args.room (2 ^ e)));
      few = omega (arith, more, inv.few, inv.power, few, c.within.ensures.bound);
    }

pub returns-clause-spacing : goal.returns-clause-spacing
returns-clause-spacing c =
    let end : c.loop-exponent.exponent ≡ 17 = omega arith in
    c.loop-exponent.invariant.spacing ∙ ap (λ (n : ℕ). greatest n (λ e. within c.args.room (2 ^ e))) end
