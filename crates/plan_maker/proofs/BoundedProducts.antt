-- Products that are limited to a greatest number.
use Rattle.std.proofs.Common.{◌≡◌, ℕ, zero, suc, ◌+◌, ◌*◌, ◌<◌, ◌≤◌, min, List, length, drop, get_or, refl, ap, sym, ◌∙◌, inl, inr, arith}
use Rattle.std.proofs.Math.Nat.{mul_assoc}
use Rattle.std.proofs.lemmas.Bool.{cases_lt}
use Rattle.std.proofs.lemmas.List.{at_drop_more, at_drop_all}
use Rattle.plan_maker.specs.Bounded.{whole_product, most_wide}

-- Limiting a factor does not change the limited product.
pub stopped : (m a q : ℕ) → min (min a m * q) m ≡ min (a * q) m
stopped m a zero = omega arith
stopped m a (suc q) = elim (cases_lt m a) [
  | inl lt ↦ let over : min a m ≡ m = omega (arith, lt) in rw over (omega (arith, lt, more m q, more a q))
  | inr le ↦ let under : min a m ≡ a = omega (arith, le) in rw under refl
]
  where
    more : (x q : ℕ) → x ≤ x * suc q
    more x q = omega arith

module _ (xs : List ℕ) (i : ℕ) (d : ℕ) (p : ℕ) (whole : ℕ) where
  -- The product with one more factor.
  pub next_factor : (next : ℕ) → i < length xs → next ≡ min (p * get_or xs i d) most_wide →
      min (p * whole_product (drop i xs)) most_wide ≡ whole → min (next * whole_product (drop (i + 1) xs)) most_wide ≡ whole
  unfolding whole_product
  next_factor next lt is inv =
      let x : ℕ = get_or xs i d in
      let q : ℕ = whole_product (drop (i + 1) xs) in
      let list : whole_product (drop i xs) ≡ x * q = at_drop_more whole_product xs i d lt in
      ap (λ (n : ℕ). min (n * q) most_wide) is ∙ stopped most_wide (p * x) q
      ∙ ap (λ (n : ℕ). min n most_wide) (mul_assoc p x q ∙ sym (ap (λ (n : ℕ). p * n) list)) ∙ inv

  pub all_factors : p ≤ most_wide → length xs ≤ i → min (p * whole_product (drop i xs)) most_wide ≡ whole → p ≡ whole
  unfolding whole_product
  all_factors small le inv =
      let none : whole_product (drop i xs) ≡ 1 = at_drop_all whole_product xs i le in
      let is : p * whole_product (drop i xs) ≡ p = ap (λ (n : ℕ). p * n) none ∙ omega arith in
      omega (arith, small, is, inv)
