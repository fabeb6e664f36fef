-- Least numbers: quotients that are rounded up, and the first number that passes a test.
use Rattle.std.proofs.Common.{◌≡◌, ◌∙◌, ◌↔◌, ℕ, zero, suc, ◌*◌, ◌<◌, ◌≤◌, Bool, true, false, cond, nat_lt, [], ◌∷◌, Option, Some, None, refl, sym, ap, subst}
use Rattle.std.proofs.Common.{inl, inr, arith, mul-le-mul_right}
use Rattle.std.specs.Prelude.{if◌then◌else◌}
use Rattle.std.specs.Int.{div_ceil}
use Rattle.std.proofs.lemmas.Bool.{cases_eq}
use Rattle.std.proofs.lemmas.Bool.Decides.{nat_tests}
use Rattle.std.proofs.lemmas.Grind.{div_ceil_times}
use Rattle.plan_maker.specs.declared.reason.Reason.{Reason}
use Rattle.plan_maker.specs.FirstNumbers.{first_of}
use Rattle.plan_maker.proofs.LeastShares.{ceil_at_most}

-- 1. A reason for a number below another

pub none_if : (a b : ℕ) (r : Reason) → (cond (nat_lt a b) (r ∷ []) [] ≡ []) ↔ (b ≤ a)
none_if a b r = (λ e. by (nat_lt a b) refl e, λ l. no l)
  where
    by : (t : Bool) → nat_lt a b ≡ t → cond t (r ∷ []) [] ≡ [] → b ≤ a
    by true s e = absurd cc
    by false s e = grind (arith, nat_tests)

    no : b ≤ a → cond (nat_lt a b) (r ∷ []) [] ≡ []
    no l = let test : nat_lt a b ≡ false = grind (arith, nat_tests) in ap (λ (t : Bool). cond t (r ∷ []) []) test

pub named_by : (t : Bool) (r q : Reason) → cond t (r ∷ []) [] ≡ q ∷ [] → r ≡ q
named_by true r q e = cc
named_by false r q e = absurd cc

-- the same for a product below another number: the least factor is the quotient, rounded up
pub none_from : (x y n product least : ℕ) (r : Reason) → 0 < y → product ≡ n * y → div_ceil x y ≡ least →
    (cond (nat_lt product x) (r ∷ []) [] ≡ []) ↔ (least ≤ n)
none_from x y n product least r some p e = (
  λ none. let over : x ≤ product = (none_if product x r).0 none in
      subst (λ (k : ℕ). k ≤ n) e (ceil_at_most x y n (omega (arith, over, p))),
  λ l. let below : div_ceil x y ≤ n = subst (λ (k : ℕ). k ≤ n) (sym e) l in
      (none_if product x r).1 (omega (arith, (div_ceil_times x y some).0, mul-le-mul_right y below, p)),
)

-- 2. The first number that passes

pub none_passes : (n : ℕ) (f : ℕ → Bool) → first_of n f ≡ None → (j : ℕ) → j < n → f j ≡ false
unfolding first_of
none_passes zero f e j l = absurd (omega (arith, l))
none_passes (suc n) f e j l = step (first_of n f) refl (f n) refl (λ g k. none_passes n f g j k) e
  where
    step : (o : Option ℕ) → first_of n f ≡ o → (b : Bool) → f n ≡ b → (first_of n f ≡ None → j < n → f j ≡ false) →
        ◌≡◌ {A = Option ℕ} (elim o [ Some x ↦ Some x | None ↦ if b then Some n else None ]) None → f j ≡ false
    step (Some x) g b h before e = absurd cc
    step None g true h before e = absurd cc
    step None g false h before e = elim (cases_eq j n) [
      | inl same ↦ ap f same ∙ h
      | inr other ↦ before g (omega arith)
    ]

pub first_is : (n : ℕ) (f : ℕ → Bool) (i : ℕ) → first_of n f ≡ Some i → (f i ≡ true) × ((j : ℕ) → j < i → f j ≡ false)
unfolding first_of
first_is zero f i e = absurd cc
first_is (suc n) f i e = step (first_of n f) refl (f n) refl (λ g. first_is n f i g) e
  where
    step : (o : Option ℕ) → first_of n f ≡ o → (b : Bool) → f n ≡ b →
        (first_of n f ≡ Some i → (f i ≡ true) × ((j : ℕ) → j < i → f j ≡ false)) →
        ◌≡◌ {A = Option ℕ} (elim o [ Some x ↦ Some x | None ↦ if b then Some n else None ]) (Some i) →
        (f i ≡ true) × ((j : ℕ) → j < i → f j ≡ false)
    step (Some x) g b h before e = before (g ∙ e)
    step None g true h before e =
        let same : n ≡ i = cc in
        subst (λ (k : ℕ). (f k ≡ true) × ((j : ℕ) → j < k → f j ≡ false)) same (h, λ j l. none_passes n f g j l)
    step None g false h before e = absurd cc
