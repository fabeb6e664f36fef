-- Bounds on quotients that are rounded up
use Rattle.std.proofs.Common.{ℕ, zero, suc, zero-mul, ◌+◌, ◌*◌, ◌<◌, ◌≤◌, arith, mul-le-mul_left}
use Rattle.std.specs.Int.{div_ceil}
use Rattle.unit_timing.specs.Shares.{parts}
use Rattle.std.proofs.lemmas.Grind.{div_ceil_times, common_steps}

pub at_most : (x y q : ℕ) → 0 < y → x ≤ q * y → div_ceil x y ≤ q
at_most x y q pos le = within (div_ceil x y) q y (below (div_ceil_times x y pos).1)
  where
    below : div_ceil x y * y < x + y → div_ceil x y * y < (q + 1) * y
    below lt = grind (arith, common_steps)

    within : (a b y : ℕ) → a * y < (b + 1) * y → a ≤ b
    within a b y lt = grind (arith, common_steps)

-- A greater divisor gives no greater quotient.
pub less_of : (x y z : ℕ) → 0 < y → y ≤ z → div_ceil x z ≤ div_ceil x y
less_of x y z pos le = at_most x z (div_ceil x y) (omega (arith, pos, le)) (omega (arith, (div_ceil_times x y pos).0, mul-le-mul_left (div_ceil x y) le))

-- If a product is at least some packets, its first factor is not 0.
pub some_of : (p s x : ℕ) → 1 ≤ p → parts * p ≤ s * x → 0 < s
some_of p zero x pos le = absurd (none (rw (zero-mul x) at le))
  where
    none : parts * p ≤ 0 → ⊥
    none le = omega (arith, le, pos)
some_of p (suc s) x pos le = omega arith
