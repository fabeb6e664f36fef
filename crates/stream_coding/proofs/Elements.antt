-- The elements of the syntax, step by step
use Rattle.std.proofs.Common.{◌≡◌, ◌∙◌, sym, ℕ, zero, suc, ◌+◌, ◌-◌, ◌*◌, ◌%◌, ◌^◌, ◌<◌, ◌≤◌, nat_lt, Bool, true, false, inl, inr, refl, lit<, arith, List, []}
use Rattle.std.proofs.Common.{◌∷◌, None, Some}
use Rattle.std.specs.Prelude.{find}
use Rattle.std.specs.List.{range_with_len}
use Rattle.std.proofs.lemmas.Bool.{cases_Bool, ltb-true}
use Rattle.std.proofs.Math.Nat.{pow-le-pow_right}
use Rattle.stream_coding.specs.declared.rbsp.Element.{Element}
use Rattle.stream_coding.specs.Rbsp.{bit_at, is_one, leading_zero_bits, number_from, after, after_times}

pub number_done : (bytes : List ℕ) (number at left : ℕ) → left ≡ 0 → number_from bytes number at left ≡ Some (number, at)
unfolding number_from
number_done bytes number at left done = rw done refl

pub number_step : (bytes : List ℕ) (number at left bit : ℕ) → 0 < left → bit_at bytes at ≡ Some bit →
    number_from bytes number at left ≡ number_from bytes (number * 2 % 2 ^ 32 + bit) (at + 1) (left - 1)
unfolding number_from
number_step bytes number at zero bit more is = absurd (omega (arith, more))
number_step bytes number at (suc left) bit more is = let less : suc left - 1 ≡ left = omega arith in rw (is, less) refl

pub number_ends : (bytes : List ℕ) (number at left : ℕ) → 0 < left → bit_at bytes at ≡ None → number_from bytes number at left ≡ None
unfolding number_from
number_ends bytes number at zero more is = absurd (omega (arith, more))
number_ends bytes number at (suc left) more is = rw is refl

pub times_done : (left : ℕ) (es : List Element) (bytes : List ℕ) (at : ℕ) → left ≡ 0 → after_times left es bytes at ≡ Some at
unfolding after_times
times_done left es bytes at done = rw done refl

pub times_step : (left : ℕ) (es : List Element) (bytes : List ℕ) (at next : ℕ) → 0 < left → after es bytes at ≡ Some next →
    after_times left es bytes at ≡ after_times (left - 1) es bytes next
unfolding after_times
times_step zero es bytes at next more is = absurd (omega (arith, more))
times_step (suc left) es bytes at next more is = let less : suc left - 1 ≡ left = omega arith in rw (is, less) refl

pub times_end : (left : ℕ) (es : List Element) (bytes : List ℕ) (at : ℕ) → 0 < left → after es bytes at ≡ None → after_times left es bytes at ≡ None
unfolding after_times
times_end zero es bytes at more is = absurd (omega (arith, more))
times_end (suc left) es bytes at more is = rw is refl

-- A number that is found passes the test.
find_passes : (p : ℕ → Bool) (xs : List ℕ) (n : ℕ) → find p xs ≡ Some n → p n ≡ true
find_passes p [] n is = absurd cc
find_passes p (x ∷ xs) n is = elim (cases_Bool (p x)) [
  | inl holds ↦
      let here : find p (x ∷ xs) ≡ Some x = rw holds refl in
      let same : x ≡ n = cc in
      rw (sym same) holds
  | inr fails ↦
      let later : find p (x ∷ xs) ≡ find p xs = rw fails refl in
      find_passes p xs n (sym later ∙ is)
]

one_below : (bytes : List ℕ) (at : ℕ) → is_one bytes at ≡ true → at < 1048576
unfolding is_one bit_at
one_below bytes at is = elim (cases_Bool (nat_lt at 1048576)) [
  | inl holds ↦ ltb-true at 1048576 holds
  | inr fails ↦
      let none : is_one bytes at ≡ false = rw fails refl in
      absurd (let wrong : false ≡ true = sym none ∙ is in cc)
]

pub one_place : (bytes : List ℕ) (at zeros : ℕ) → leading_zero_bits bytes at ≡ Some zeros → at + zeros < 1048576
unfolding leading_zero_bits
one_place bytes at zeros is = one_below bytes (at + zeros) (find_passes (λ n. is_one bytes (at + n)) (range_with_len 0 32) zeros is)

-- A unit of sizes is at most 2^19 bits.
pub unit_bound : (scale : ℕ) → 1 * 2 ^ (4 + scale % 16) % 2 ^ 64 ≤ 524288
unit_bound scale =
    let less : 4 + scale % 16 ≤ 19 = omega arith in
    let most : 2 ^ (4 + scale % 16) ≤ 2 ^ 19 = pow-le-pow_right (let some : 0 < 2 = lit< tt in some) less in
    omega (arith, most)
