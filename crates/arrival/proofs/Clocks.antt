-- The moments of clock references
use Rattle.std.proofs.Common.{◌≡◌, ◌∙◌, sym, ℕ, ◌+◌, ◌-◌, ◌*◌, ◌%◌, ◌^◌, ◌<◌, [], ◌∷◌, Bool, true, false, refl, ap, arith}
use Rattle.std.proofs.Math.Nat.{add-mod_left, add-mod-mod, mod-add-mod, add-mul-mod_self_right}
use Rattle.std.proofs.lemmas.List.Elements.{All-head, All-tail}
use Rattle.arrival.specs.declared.clock.PcrSample.{PcrSample}
use Rattle.arrival.specs.declared.clock.TimedSample.{TimedSample}
use Rattle.arrival.specs.Clock.{IsInRange, elapsed, goes_on, step_from, moment_by, step_after, timed_after, last_of}
use Rattle.arrival.specs.Laws.{MomentLaw}

-- A moment of `before`, plus the elapsed ticks, is a moment of `value`.
on : (moment before value : ℕ) → before < 2 ^ 42 → moment % 2576980377600 ≡ before % 2576980377600 →
    (moment + elapsed before value) % 2576980377600 ≡ value % 2576980377600
on moment before value low is =
    let k : ℕ = value + 2 * 2576980377600 - before in
    let e : before + k ≡ value + 2 * 2576980377600 = omega (arith, low) in
    add-mod-mod moment k 2576980377600
    ∙ sym (mod-add-mod moment 2576980377600 k)
    ∙ ap (λ (m : ℕ). (m + k) % 2576980377600) is
    ∙ mod-add-mod before 2576980377600 k
    ∙ ap (λ (m : ℕ). m % 2576980377600) e
    ∙ add-mul-mod_self_right value 2 2576980377600

from : (before : TimedSample) (sample : PcrSample) (on anew : Bool) → goes_on before.sample sample ≡ on → sample.discontinuity ≡ anew →
    before.sample.ticks < 2 ^ 42 → before.moment % 2576980377600 ≡ before.sample.ticks % 2576980377600 →
    moment_by (step_from before sample) sample % 2576980377600 ≡ sample.ticks % 2576980377600
unfolding step_from moment_by
from before sample true anew e f low is = rw e (on before.moment before.sample.ticks sample.ticks low is)
from before sample false true e f low is = rw (e, f) (add-mod_left 2576980377600 sample.ticks)
from before sample false false e f low is = rw (e, f) (add-mod_left 2576980377600 sample.ticks)

pub moments : MomentLaw
unfolding last_of step_after moment_by
moments [] all = tt
moments (sample ∷ []) all = add-mod_left 2576980377600 sample.ticks
moments (sample ∷ before ∷ earlier) all =
    from (timed_after (last_of earlier) before) sample (goes_on before sample) sample.discontinuity refl refl
    (All-head IsInRange before earlier (All-tail IsInRange sample (before ∷ earlier) all)).ticks
    (moments (before ∷ earlier) (All-tail IsInRange sample (before ∷ earlier) all))
