-- There is only one order of time.
use Rattle.std.proofs.Common.{◌≡◌, ◌≤◌, ◌<◌, ◌∙◌, ℕ, suc, ◌+◌, ◌==◌, nat_le, nat_cmp, if◌then◌else◌, refl, sym, ap, ap₂, subst, inl, inr, arith, List, [], ◌∷◌}
use Rattle.std.proofs.Common.{length, get_or}
use Rattle.std.proofs.lemmas.Bool.{cases_Bool, cases_order}
use Rattle.std.proofs.lemmas.Grind.{common_steps}
use Rattle.std.proofs.lemmas.List.Sorted.{IsNonDecreasingBy-from_sort, sum_by-IsPermutation}
use Rattle.std.proofs.lemmas.List.Sums.{sum_by-cons}
use Rattle.std.specs.List.Sorted.{IsPermutation, IsSorted}
use Rattle.std.specs.List.{sum_by}
use Rattle.es_moments.specs.MadeDts.{placed, in_order}

-- Numbers that do not fall, each at least `low`
abbrev Rises : ℕ → List ℕ → Type 0
Rises low [] = Unit {0}
Rises low (x ∷ xs) = (low ≤ x) × Rises x xs

-- How often a number is in a list
abbrev one : ℕ → ℕ → ℕ
one v x = if x == v then 1 else 0

abbrev many : ℕ → List ℕ → ℕ
many v [] = 0
many v (x ∷ xs) = one v x + many v xs

one_same : (x : ℕ) → one x x ≡ 1
one_same x = grind (arith, common_steps)

one_other : (v x : ℕ) → v < x → one v x ≡ 0
one_other v x less = grind (arith, common_steps, less)

none_below : (v low : ℕ) (xs : List ℕ) → v < low → Rises low xs → many v xs ≡ 0
none_below v low [] less rises = refl
none_below v low (x ∷ xs) less rises = omega (arith, one_other v x (omega (arith, less, rises.0)), none_below v x xs (omega (arith, less, rises.0)) rises.1)

-- Rising lists with the same numbers, each as often, are equal.
tails : (x : ℕ) (xs ys : List ℕ) → ((v : ℕ) → many v (x ∷ xs) ≡ many v (x ∷ ys)) → (v : ℕ) → many v xs ≡ many v ys
tails x xs ys same v = let all = same v in omega (arith, all)

no_less : (x y : ℕ) (xs ys : List ℕ) → Rises y ys → many x (x ∷ xs) ≡ many x (y ∷ ys) → x < y → ⊥
no_less x y xs ys rises same less = omega (arith, same, one_same x, one_other x y less, none_below x y ys less rises)

same_heads : (x y : ℕ) (xs ys : List ℕ) → x ≡ y → xs ≡ ys → (x ∷ xs) ≡ (y ∷ ys)
same_heads x y xs ys head rest = ap₂ (λ (z : ℕ) (zs : List ℕ). z ∷ zs) head rest

one_rise : (low : ℕ) (xs ys : List ℕ) → Rises low xs → Rises low ys → ((v : ℕ) → many v xs ≡ many v ys) → xs ≡ ys
one_rise low [] [] rise rises same = refl
one_rise low [] (y ∷ ys) rise rises same = absurd (let no : ⊥ = omega (arith, same y, one_same y) in no)
one_rise low (x ∷ xs) [] rise rises same = absurd (let no : ⊥ = omega (arith, same x, one_same x) in no)
one_rise low (x ∷ xs) (y ∷ ys) rise rises same = elim (cases_order x y) [
  | inl equal ↦
      same_heads x y xs ys equal (one_rise x xs ys rise.1 (subst (λ (z : ℕ). Rises z ys) (sym equal) rises.1)
      (tails x xs ys (subst (λ (z : ℕ). (v : ℕ) → many v (x ∷ xs) ≡ many v (z ∷ ys)) (sym equal) same)))
  | inr (inl less) ↦ absurd (no_less x y xs ys rises.1 (same x) less)
  | inr (inr more) ↦ absurd (no_less y x ys xs rise.1 (sym (same y)) more)
]

-- The order of the definition rises and has the same numbers.
placed_rises : (low x : ℕ) (ys : List ℕ) → low ≤ x → Rises low ys → Rises low (placed x ys)
unfolding placed
placed_rises low x [] le rises = (le, tt)
placed_rises low x (y ∷ ys) le rises = elim (cases_Bool (nat_le x y)) [
  | inl before ↦ rw before (le, (grind (arith, common_steps, before), rises.1))
  | inr after ↦ rw after (rises.0, placed_rises y x ys (grind (arith, common_steps, after)) rises.1)
]

order_rises : (xs : List ℕ) → Rises 0 (in_order xs)
unfolding in_order
order_rises [] = tt
order_rises (x ∷ xs) = placed_rises 0 x (in_order xs) (omega arith) (order_rises xs)

placed_many : (v x : ℕ) (ys : List ℕ) → many v (placed x ys) ≡ one v x + many v ys
unfolding placed
placed_many v x [] = refl
placed_many v x (y ∷ ys) = elim (cases_Bool (nat_le x y)) [
  | inl before ↦ rw before refl
  | inr after ↦ rw after (let rest = placed_many v x ys in omega (arith, rest))
]

order_many : (v : ℕ) (xs : List ℕ) → many v (in_order xs) ≡ many v xs
unfolding in_order
order_many v [] = refl
order_many v (x ∷ xs) = placed_many v x (in_order xs) ∙ ap (λ (n : ℕ). one v x + n) (order_many v xs)

-- The result of a sort rises and has the same numbers.
many_sum : (v : ℕ) (xs : List ℕ) → many v xs ≡ sum_by (one v) xs
many_sum v [] = refl
many_sum v (x ∷ xs) = ap (λ (n : ℕ). one v x + n) (many_sum v xs) ∙ sym (sum_by-cons (one v) x xs)

sorted_rises : (low : ℕ) (xs : List ℕ) → ((d : ℕ) → 0 < length xs → low ≤ get_or xs 0 d) →
    ((i j d : ℕ) → i ≤ j → j < length xs → get_or xs i d ≤ get_or xs j d) → Rises low xs
sorted_rises low [] first rises = tt
sorted_rises low (x ∷ xs) first rises = (
  first 0 (omega arith),
  sorted_rises x xs (λ d some. rises 0 1 d (omega arith) (omega (arith, some)))
      (λ i j d le below. rises (suc i) (suc j) d (omega (arith, le)) (omega (arith, below))),
)

pub order_is : (xs ys : List ℕ) → IsPermutation xs ys → IsSorted nat_cmp ys → ys ≡ in_order xs
order_is xs ys moves sorted =
    one_rise 0 ys (in_order xs)
    (sorted_rises 0 ys (λ d some. omega arith) (IsNonDecreasingBy-from_sort (λ (x : ℕ). x) ys sorted))
    (order_rises xs)
    (λ v. many_sum v ys ∙ sum_by-IsPermutation (one v) xs ys moves ∙ sym (many_sum v xs) ∙ sym (order_many v xs))
