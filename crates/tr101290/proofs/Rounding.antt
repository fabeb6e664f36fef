-- Values rounded up, and clocks rounded down to whole ticks.
use Rattle.std.proofs.Common.{◌*◌, arith}
use Rattle.std.proofs.Math.Nat.{lt_of_mul-lt-mul_right, mul-le-mul_right}
use Rattle.std.proofs.lemmas.Grind.{div_ceil_times}
use Rattle.tr101290.specs.Measures.{parts_off}
use Rattle.tr101290.specs.PcrLaws.{RoundedUpLaw, IntervalLaw, InaccuracyLaw}

pub rounded_up_law : RoundedUpLaw
rounded_up_law limit a b some = (
  λ more. let m = mul-le-mul_right b more in omega (arith, (div_ceil_times a b some).1, m),
  λ more. lt_of_mul-lt-mul_right b (omega (arith, more, (div_ceil_times a b some).0)),
)

pub interval_law : IntervalLaw
interval_law rate bytes some = rounded_up_law 2700000 (bytes * 216000000) rate some

pub inaccuracy_law : InaccuracyLaw
inaccuracy_law line bytes ticks some =
    let law = rounded_up_law 500 (parts_off line bytes ticks * 1000) (27 * bytes) (omega (arith, some)) in
    (λ more. omega (arith, law.0 more), λ more. law.1 (omega (arith, more)))
