-- The greatest and the least of finitely many numbers
use Rattle.std.proofs.Common.{◌+◌, max, ◌≡◌, ℕ, zero, suc, ◌<◌, ◌≤◌, ◌⊎◌, min, refl, ◌∙◌, inl, inr, arith, add-one}
use Rattle.std.proofs.lemmas.Bool.{cases_lt, cases_eq}
use Rattle.own_slots.specs.Extremes.{greatest, least}

pub at_most_greatest : (n : ℕ) (f : ℕ → ℕ) (i : ℕ) → i < n → f i ≤ greatest n f
unfolding greatest
at_most_greatest zero f i lt = absurd (omega arith)
at_most_greatest (suc n) f i lt = elim (cases_eq i n) [
  | inl e ↦ rw e (omega arith)
  | inr d ↦ omega (arith, at_most_greatest n f i (omega arith))
]

pub greatest_at_most : (n : ℕ) (f : ℕ → ℕ) (m : ℕ) → ((i : ℕ) → i < n → f i ≤ m) → greatest n f ≤ m
unfolding greatest
greatest_at_most zero f m all = omega arith
greatest_at_most (suc n) f m all = omega (arith, greatest_at_most n f m (λ i lt. all i (omega arith)), all n (omega arith))

pub record Reached (n : ℕ) (f : ℕ → ℕ) (m : ℕ) : Type 0 where
  pub at : ℕ
  pub below : at < n
  pub same : m ≡ f at

-- The greatest number is among the numbers.
pub greatest_reached : (n : ℕ) (f : ℕ → ℕ) → 0 < n → Reached n f (greatest n f)
unfolding greatest
greatest_reached zero f pos = absurd (omega arith)
greatest_reached (suc n) f pos = elim (cases_lt (f n) (greatest n f)) [
  | inl lt ↦ let r : Reached n f (greatest n f) = greatest_reached n f (some n f lt) in
      record { at = r.at; below = omega (arith, r.below); same = omega (arith, r.same) }
  | inr le ↦ record { at = n; below = omega arith; same = omega arith }
]
  where
    some : (n : ℕ) (f : ℕ → ℕ) → f n < greatest n f → 0 < n
    some zero f lt = absurd (omega arith)
    some (suc n) f lt = omega arith

pub least_at_most : (top n : ℕ) (f : ℕ → ℕ) (i : ℕ) → i < n → least top n f ≤ f i
unfolding least
least_at_most top zero f i lt = absurd (omega arith)
least_at_most top (suc n) f i lt = elim (cases_eq i n) [
  | inl e ↦ rw e (omega arith)
  | inr d ↦ omega (arith, least_at_most top n f i (omega arith))
]

-- The least number is the top or among the numbers.
pub least_reached : (top n : ℕ) (f : ℕ → ℕ) → (least top n f ≡ top) ⊎ Reached n f (least top n f)
unfolding least
least_reached top zero f = inl refl
least_reached top (suc n) f = elim (cases_lt (least top n f) (f n)) [
  | inl lt ↦ let e : min (least top n f) (f n) ≡ least top n f = omega arith in elim (least_reached top n f) [
    | inl t ↦ inl (e ∙ t)
    | inr r ↦ inr (record { at = r.at; below = omega (arith, r.below); same = e ∙ r.same })
  ]
  | inr le ↦ inr (record { at = n; below = omega arith; same = omega arith })
]

-- ---- One more number

pub greatest_none : (f : ℕ → ℕ) → greatest 0 f ≡ 0
unfolding greatest
greatest_none f = refl

pub greatest_more : (n : ℕ) (f : ℕ → ℕ) → greatest (n + 1) f ≡ max (greatest n f) (f n)
unfolding greatest
greatest_more n f = rw (add-one n) refl

pub least_none : (top : ℕ) (f : ℕ → ℕ) → least top 0 f ≡ top
unfolding least
least_none top f = refl

pub least_more : (top n : ℕ) (f : ℕ → ℕ) → least top (n + 1) f ≡ min (least top n f) (f n)
unfolding least
least_more top n f = rw (add-one n) refl

-- The least number is never greater than the top.
pub least_below : (top n : ℕ) (f : ℕ → ℕ) → least top n f ≤ top
unfolding least
least_below top zero f = omega arith
least_below top (suc n) f = omega (arith, least_below top n f)
