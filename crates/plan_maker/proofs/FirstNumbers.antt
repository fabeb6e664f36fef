-- Tests of the first n numbers, one after another.
use Rattle.std.specs.Prelude.{if◌then◌else◌}
use Rattle.std.proofs.Common.{◌≡◌, ℕ, zero, suc, ◌+◌, ◌<◌, ◌&&◌, Bool, true, false, Option, Some, None, refl, ap, sym, ◌∙◌, inl, inr, arith, add-one}
use Rattle.std.proofs.lemmas.Bool.{cases_eq}
use Rattle.plan_maker.specs.FirstNumbers.{every, first_of}

pub every_none : (f : ℕ → Bool) → every 0 f ≡ true
unfolding every
every_none f = refl

every_next : (n : ℕ) (f : ℕ → Bool) → every n f ≡ true → f n ≡ true → every (suc n) f ≡ true
unfolding every
every_next n f all here = rw (all, here) refl

pub every_more : (n : ℕ) (f : ℕ → Bool) → every n f ≡ true → f n ≡ true → every (n + 1) f ≡ true
every_more n f all here = rw (add-one n) (every_next n f all here)

pub every_fails : (n : ℕ) (f : ℕ → Bool) (i : ℕ) → i < n → f i ≡ false → every n f ≡ false
unfolding every
every_fails zero f i lt fails = absurd (omega arith)
every_fails (suc n) f i lt fails = elim (cases_eq i n) [
  | inl e ↦ last (every n f) (f n) (ap f (sym e) ∙ fails)
  | inr d ↦ rw (every_fails n f i (omega arith) fails) refl
]
  where
    last : (a b : Bool) → b ≡ false → (a && b) ≡ false
    last true b fails = fails
    last false b fails = refl

pub first_none : (f : ℕ → Bool) → first_of 0 f ≡ None
unfolding first_of
first_none f = refl

first_not_next : (n : ℕ) (f : ℕ → Bool) → first_of n f ≡ None → f n ≡ false → first_of (suc n) f ≡ None
unfolding first_of
first_not_next n f none fails = rw (none, fails) refl

pub first_not_yet : (n : ℕ) (f : ℕ → Bool) → first_of n f ≡ None → f n ≡ false → first_of (n + 1) f ≡ None
first_not_yet n f none fails = rw (add-one n) (first_not_next n f none fails)

pub first_here : (n : ℕ) (f : ℕ → Bool) (i : ℕ) → i < n → first_of i f ≡ None → f i ≡ true → first_of n f ≡ Some i
unfolding first_of
first_here zero f i lt none passes = absurd (omega arith)
first_here (suc n) f i lt none passes = elim (cases_eq i n) [
  | inl e ↦ let none_n : first_of n f ≡ None = ap (λ (m : ℕ). first_of m f) (sym e) ∙ none in
      let yes_n : f n ≡ true = ap f (sym e) ∙ passes in
      rw (none_n, yes_n, e) refl
  | inr d ↦ rw (first_here n f i (omega arith) none passes) refl
]

-- No number passes the test.
pub first_fails : (n : ℕ) (f : ℕ → Bool) → ((i : ℕ) → i < n → f i ≡ false) → first_of n f ≡ None
first_fails zero f fails = first_none f
first_fails (suc n) f fails = first_not_next n f (first_fails n f (λ i lt. fails i (omega (arith, lt)))) (fails n (omega arith))

-- A number that is found is below n.
pub first_below : (n : ℕ) (f : ℕ → Bool) (i : ℕ) → first_of n f ≡ Some i → i < n
unfolding first_of
first_below zero f i e = absurd (cc)
first_below (suc n) f i e = step (first_of n f) (f n) (first_below n f i) e
  where
    same : (a b : ℕ) → Some a ≡ Some b → a ≡ b
    same a b e = cc

    step : (o : Option ℕ) (b : Bool) → (o ≡ Some i → i < n) → ◌≡◌ {A = Option ℕ} (elim o [ Some x ↦ Some x | None ↦ if b then Some n else None ]) (Some i) →
        i < suc n
    step (Some x) b under e = omega (arith, under e)
    step None true under e = omega (arith, same n i e)
    step None false under e = absurd (cc)
