-- A curve whose slots grow to more windows, and then take a value.
use Rattle.std.proofs.Common.{◌≡◌, ◌∙◌, ℕ, zero, suc, ◌+◌, ◌-◌, ◌*◌, ◌/◌, ◌^◌, ◌==◌, ◌<◌, ◌≤◌, ◌⊎◌, inl, inr, max, Bool, true, false, List, [], ◌∷◌, ◌++◌}
use Rattle.std.proofs.Common.{length, get_or, set, take, Option, Some, None, refl, sym, ap, ap₂, subst, arith}
use Rattle.std.proofs.lemmas.List.{get_or_past, get_or-set_same, get_or-set_other, get_or-take, get_or_push, get_or_append_left}
use Rattle.page_curves.specs.declared.bounds.Bounds.{Bounds}
use Rattle.page_curves.specs.Bounds.{joined, one_value, value_if}
use Rattle.page_curves.specs.Slots.{CurveView, slot_at}
use Rattle.page_curves.specs.Curves.{HasSlots, IsCurve, IsSpan, Sample, bounds_in, next_of, sample}
use Rattle.page_curves.proofs.Merging.{equal, unequal, merged, quotient}

-- The slots while they grow for the windows below `next`: they may still be too few.
pub record Widens (curve : CurveView) (samples : List Sample) (next : ℕ) : Type 0 where
  pub power : (k : ℕ) × (curve.span ≡ 2 ^ k)
  pub room : next_of samples ≤ 512 * curve.span
  pub needed : (curve.span ≡ 1) ⊎ (512 * curve.span < 2 * next)
  pub each : (slot : ℕ) → slot_at curve.slots slot ≡ bounds_in curve.span slot samples

still_needed : (span a b : ℕ) → a ≤ b → (span ≡ 1) ⊎ (512 * span < 2 * a) → (span ≡ 1) ⊎ (512 * span < 2 * b)
still_needed span a b le (inl e) = inl e
still_needed span a b le (inr lt) = inr (omega (arith, lt, le))

pub at_first : (curve : CurveView) (samples : List Sample) (next : ℕ) → IsCurve curve samples → next_of samples ≤ next → Widens curve samples next
at_first curve samples next is le = record {
  power = is.span.power;
  room = is.span.room;
  needed = still_needed curve.span (next_of samples) next le is.span.needed;
  each = is.each;
}

twice : (k : ℕ) → 2 * 2 ^ k ≡ 2 ^ suc k
twice k = omega arith

-- One step doubles the windows of each slot.
pub halved : (old new : CurveView) (samples : List Sample) (next : ℕ) → Widens old samples next → 512 * old.span < next → new.span ≡ 2 * old.span →
    ((slot : ℕ) → slot_at new.slots slot ≡ joined (slot_at old.slots (2 * slot)) (slot_at old.slots (2 * slot + 1))) → Widens new samples next
halved old new samples next w beyond span slots = record {
  power = (suc w.power.0, span ∙ ap (λ (n : ℕ). 2 * n) w.power.1 ∙ twice w.power.0);
  room = omega (arith, w.room, span);
  needed = inr (omega (arith, beyond, span));
  each = λ slot. slots slot ∙ ap₂ joined (w.each (2 * slot)) (w.each (2 * slot + 1))
      ∙ sym (merged old.span slot samples) ∙ ap (λ (n : ℕ). bounds_in n slot samples) (sym span);
}

-- If a window's slot is among the 512 slots, the slots have room for all windows up to this window.
below : (n span : ℕ) → 0 < span → n / span < 512 → n + 1 ≤ 512 * span
below n span pos few = grind (arith)

pub beyond : (n span : ℕ) → 0 < span → 512 ≤ n / span → 512 * span < n + 1
beyond n span pos many = grind (arith)

pub widened : (curve : CurveView) (samples : List Sample) (number : ℕ) → Widens curve samples (max (number + 1) (next_of samples)) → 0 < curve.span →
    number / curve.span < 512 →
    HasSlots curve samples (max (number + 1) (next_of samples))
widened curve samples number w pos few = record {
  span = record { power = w.power; room = omega (arith, w.room, below number curve.span pos few); needed = w.needed };
  each = w.each;
}

-- A slot takes one more value.
pub put_slot : (slots : List (Option Bounds)) (s v : ℕ) (x : Option Bounds) → s < length slots → x ≡ get_or slots s None → (i : ℕ) →
    get_or (set slots s (joined (Some (one_value v)) x)) i None ≡ joined (value_if (s == i) v) (get_or slots i None)
unfolding joined
put_slot slots s v x lt is i = by (s == i) refl
  where
    by : (t : Bool) → (s == i) ≡ t → get_or (set slots s (joined (Some (one_value v)) x)) i None ≡ joined (value_if t v) (get_or slots i None)
    by true e =
        let same : s ≡ i = equal s i e in
        subst (λ (k : ℕ). get_or (set slots s (joined (Some (one_value v)) x)) k None ≡ joined (Some (one_value v)) (get_or slots k None)) same
        (get_or-set_same slots s (joined (Some (one_value v)) x) None lt ∙ ap (joined (Some (one_value v))) is)
    by false e = get_or-set_other slots s i (joined (Some (one_value v)) x) None (λ same. unequal s i e (sym same))

pub with_value : (old new : CurveView) (samples : List Sample) (number value slot : ℕ) → HasSlots old samples (max (number + 1) (next_of samples)) →
    slot ≡ number / old.span →
    new.span ≡ old.span → ((i : ℕ) → slot_at new.slots i ≡ joined (value_if (slot == i) value) (slot_at old.slots i)) →
    IsCurve new (sample number value ∷ samples)
unfolding next_of bounds_in
with_value old new samples number value slot has place span slots = record {
  span = subst (λ (n : ℕ). IsSpan n (max (number + 1) (next_of samples))) (sym span) has.span;
  each = λ i. slots i ∙ ap₂ joined (ap (λ (q : ℕ). value_if (q == i) value) (place ∙ ap (λ (n : ℕ). number / n) (sym span)))
      (has.each i ∙ ap (λ (n : ℕ). bounds_in n i samples) (sym span));
}

-- Added slots have no values.
pub pushed : (slots : List (Option Bounds)) (i : ℕ) → get_or (slots ++ None ∷ []) i None ≡ get_or slots i None
pushed [] i = by i
  where
    by : (i : ℕ) → get_or (None ∷ []) i None ≡ get_or {A = Option Bounds} [] i None
    by zero = refl
    by (suc k) = refl
pushed (x ∷ xs) zero = refl
pushed (x ∷ xs) (suc i) = pushed xs i

-- A curve without values.
pub empty_curve : (curve : CurveView) → curve.span ≡ 1 → curve.slots ≡ [] → IsCurve curve []
unfolding next_of bounds_in
empty_curve curve one none = record {
  span = record { power = (0, one); room = omega arith; needed = inl one };
  each = λ slot. ap (λ (slots : List (Option Bounds)). get_or slots slot None) none;
}

-- With twice as many windows in a slot, fewer slots precede a window's slot.
pub fewer : (n s t : ℕ) → 512 ≤ n / s → 0 < s → t ≡ 2 * s → n / t < n / s
fewer n s t many pos e = subst (λ (k : ℕ). k < n / s) (sym (ap (λ (k : ℕ). n / k) e ∙ quotient n s)) (half (n / s) many)
  where
    half : (q : ℕ) → 512 ≤ q → q / 2 < q
    half q h = omega (arith, h)

pub span_fits : (n s : ℕ) → n < 2 ^ 64 → 0 < s → 512 ≤ n / s → s < 2 ^ 63
span_fits n s small pos many = omega (arith, small, beyond n s pos many)

-- Adding slots without values keeps the curve.
pub kept : (old new : CurveView) (samples : List Sample) (next : ℕ) → HasSlots old samples next → new.span ≡ old.span →
    ((i : ℕ) → slot_at new.slots i ≡ slot_at old.slots i) → HasSlots new samples next
kept old new samples next has span same = record {
  span = subst (λ (n : ℕ). IsSpan n next) (sym span) has.span;
  each = λ i. same i ∙ has.each i ∙ ap (λ (n : ℕ). bounds_in n i samples) (sym span);
}
