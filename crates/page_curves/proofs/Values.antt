-- The values of a curve, and the bounds of its slots.
use Rattle.std.proofs.Common.{◌≡◌, ◌∙◌, ℕ, ◌/◌, ◌==◌, ◌<◌, ◌≤◌, ◌⊎◌, inl, inr, min, max, Bool, true, false, List, [], ◌∷◌, Option, Some, None, refl, sym, ap}
use Rattle.std.proofs.Common.{subst, arith}
use Rattle.std.proofs.lemmas.Bool.Decides.{nat_tests}
use Rattle.page_curves.specs.declared.bounds.Bounds.{Bounds}
use Rattle.page_curves.specs.Bounds.{both, joined, one_value, value_if}
use Rattle.page_curves.specs.Slots.{CurveView, slot_at}
use Rattle.page_curves.specs.Curves.{IsCurve, Sample, bounds_in}
use Rattle.page_curves.specs.Laws.{BoundLaw, IsAmong, IsWithin, TakesOn, ValueLaw}
use Rattle.page_curves.proofs.Merging.{equal}

-- 1. Each value lies within its bounds

within_first : (v : ℕ) (b : Option Bounds) → IsWithin v (joined (Some (one_value v)) b)
unfolding IsWithin joined
within_first v None = (omega arith, omega arith)
within_first v (Some b) = (omega arith, omega arith)

within_rest : (v w : ℕ) (t : Bool) (b : Option Bounds) → IsWithin v b → IsWithin v (joined (value_if t w) b)
unfolding IsWithin joined
within_rest v w t None is = absurd is
within_rest v w true (Some b) is = (omega (arith, is.0), omega (arith, is.1))
within_rest v w false (Some b) is = is

itself : (a : ℕ) → (a == a) ≡ true
itself a = by (a == a) refl
  where
    by : (t : Bool) → (a == a) ≡ t → t ≡ true
    by true e = refl
    by false e = absurd (grind (arith, nat_tests))

within : (span : ℕ) (xs : List Sample) (s : Sample) → IsAmong xs s → IsWithin s.value (bounds_in span (s.number / span) xs)
unfolding IsAmong bounds_in
within span [] s among = absurd among
within span (x ∷ xs) s (inl same) =
    let here : IsWithin x.value (joined (value_if (x.number / span == x.number / span) x.value) (bounds_in span (x.number / span) xs)) =
    subst (λ (t : Bool). IsWithin x.value (joined (value_if t x.value) (bounds_in span (x.number / span) xs))) (sym (itself (x.number / span)))
    (within_first x.value (bounds_in span (x.number / span) xs)) in
    subst (λ (y : Sample). IsWithin y.value (joined (value_if (x.number / span == y.number / span) x.value) (bounds_in span (y.number / span) xs))) same here
within span (x ∷ xs) s (inr among) =
    within_rest s.value x.value (x.number / span == s.number / span) (bounds_in span (s.number / span) xs) (within span xs s among)

pub value_law : ValueLaw
value_law curve samples is s among = subst (IsWithin s.value) (sym (is.each (s.number / curve.span))) (within curve.span samples s among)

-- 2. Each bound is a value

abbrev Both : List Sample → ℕ → ℕ → Bounds → Type 0
Both xs span slot b = TakesOn xs span slot b.least × TakesOn xs span slot b.greatest

later : (x : Sample) (xs : List Sample) (span slot v : ℕ) → TakesOn xs span slot v → TakesOn (x ∷ xs) span slot v
unfolding IsAmong
later x xs span slot v t = record { one = t.one; among = inr t.among; here = t.here; value_is = t.value_is }

first : (x : Sample) (xs : List Sample) (span slot : ℕ) → x.number / span ≡ slot → TakesOn (x ∷ xs) span slot x.value
unfolding IsAmong
first x xs span slot here = record { one = x; among = inl refl; here = here; value_is = refl }

-- The lesser of two numbers has any property that both have, and so does the greater.
least_of : (P : ℕ → Type 0) (a b : ℕ) → P a → P b → P (min a b)
least_of P a b p q = by (le a b)
  where
    le : (a b : ℕ) → (min a b ≡ a) ⊎ (min a b ≡ b)
    le a b = grind (arith)

    by : (min a b ≡ a) ⊎ (min a b ≡ b) → P (min a b)
    by (inl e) = subst P (sym e) p
    by (inr e) = subst P (sym e) q

greatest_of : (P : ℕ → Type 0) (a b : ℕ) → P a → P b → P (max a b)
greatest_of P a b p q = by (le a b)
  where
    le : (a b : ℕ) → (max a b ≡ a) ⊎ (max a b ≡ b)
    le a b = grind (arith)

    by : (max a b ≡ a) ⊎ (max a b ≡ b) → P (max a b)
    by (inl e) = subst P (sym e) p
    by (inr e) = subst P (sym e) q

taken_on : (span slot : ℕ) (xs : List Sample) (b : Bounds) → bounds_in span slot xs ≡ Some b → Both xs span slot b
unfolding bounds_in joined
taken_on span slot [] b e = absurd cc
taken_on span slot (x ∷ xs) b e = by (λ c f. taken_on span slot xs c f) (x.number / span == slot) refl (bounds_in span slot xs) refl e
  where
    by : ((c : Bounds) → bounds_in span slot xs ≡ Some c → Both xs span slot c) → (t : Bool) → (x.number / span == slot) ≡ t → (r : Option Bounds) →
        bounds_in span slot xs ≡ r → joined (value_if t x.value) r ≡ Some b → Both (x ∷ xs) span slot b
    by before false here r rest e =
        let old = before b (rest ∙ e) in
        (later x xs span slot b.least old.0, later x xs span slot b.greatest old.1)
    by before true here None rest e =
        let same : one_value x.value ≡ b = cc in
        let one : TakesOn (x ∷ xs) span slot x.value = first x xs span slot (equal (x.number / span) slot here) in
        subst (λ (c : Bounds). Both (x ∷ xs) span slot c) same (one, one)
    by before true here (Some c) rest e =
        let same : both (one_value x.value) c ≡ b = cc in
        let old = before c rest in
        let one : TakesOn (x ∷ xs) span slot x.value = first x xs span slot (equal (x.number / span) slot here) in
        subst (λ (c : Bounds). Both (x ∷ xs) span slot c) same (
          least_of (TakesOn (x ∷ xs) span slot) x.value c.least one (later x xs span slot c.least old.0),
          greatest_of (TakesOn (x ∷ xs) span slot) x.value c.greatest one (later x xs span slot c.greatest old.1),
        )

pub bound_law : BoundLaw
bound_law curve samples is slot b at = taken_on curve.span slot samples b (sym (is.each slot) ∙ at)
