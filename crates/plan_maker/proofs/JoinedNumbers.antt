-- The greatest and the least of numbers that may be missing, with one more number.
use Rattle.std.proofs.Common.{◌≡◌, ℕ, ◌+◌, Option, refl, add-one}
use Rattle.plan_maker.specs.Joined.{greater, lesser, greatest_of, least_of}

pub greatest_of_none : (first : Option ℕ) (f : ℕ → Option ℕ) → greatest_of first 0 f ≡ first
unfolding greatest_of
greatest_of_none first f = refl

pub greatest_of_more : (first : Option ℕ) (n : ℕ) (f : ℕ → Option ℕ) → greatest_of first (n + 1) f ≡ greater (greatest_of first n f) (f n)
unfolding greatest_of
greatest_of_more first n f = rw (add-one n) refl

pub least_of_none : (first : Option ℕ) (f : ℕ → Option ℕ) → least_of first 0 f ≡ first
unfolding least_of
least_of_none first f = refl

pub least_of_more : (first : Option ℕ) (n : ℕ) (f : ℕ → Option ℕ) → least_of first (n + 1) f ≡ lesser (least_of first n f) (f n)
unfolding least_of
least_of_more first n f = rw (add-one n) refl
