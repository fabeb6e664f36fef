-- The `max` and the `min` of two numbers
use Rattle.std.proofs.Common.{◌≡◌, ℕ, min, max, nat_cmp, arith}
use Rattle.std.specs.Ordering.{ord_max, ord_min}
use Rattle.std.proofs.lemmas.Bool.Decides.{nat_tests}

pub max_is : (a b : ℕ) → ord_max nat_cmp a b ≡ max a b
max_is a b = grind (arith, nat_tests)

pub min_is : (a b : ℕ) → ord_min nat_cmp a b ≡ min a b
min_is a b = grind (arith, nat_tests)
