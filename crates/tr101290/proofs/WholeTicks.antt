-- A clock whose values are rounded down to whole ticks.
use Rattle.std.proofs.Common.{◌≡◌, sym, ℕ, ◌+◌, ◌-◌, ◌*◌, ◌/◌, ◌<◌, ◌≤◌, arith}
use Rattle.std.proofs.Math.Nat.{div-mul-le_self, lt-mul-div-succ, lt_of_mul-lt-mul_right}
use Rattle.std.proofs.lemmas.Grind.{div_ceil_times}
use Rattle.tr101290.specs.Measures.{rounded_up, parts_off}
use Rattle.tr101290.specs.PcrLaws.{WholeTicksLaw}

-- Between the values x and x + d, rounded down, the number of ticks differs from d / rate by less than one.
near : (rate x d t : ℕ) → 0 < rate → t + x / rate ≡ (x + d) / rate → (t * rate - d) + (d - t * rate) < rate
near rate x d t some is =
    let low = div-mul-le_self x rate in
    let high = lt-mul-div-succ x some in
    let low' = div-mul-le_self (x + d) rate in
    let high' = lt-mul-div-succ (x + d) some in
    let e : (x + d) / rate * rate ≡ t * rate + x / rate * rate = rw (sym is) (omega arith) in
    omega (arith, low, high, low', high', e)

-- Less than one tick is at most 38 ns, rounded up.
few : (parts rate : ℕ) → 0 < rate → parts < rate → rounded_up (parts * 1000) (27 * rate) ≤ 38
few parts rate some less =
    let up = div_ceil_times (parts * 1000) (27 * rate) (omega (arith, some)) in
    let below : rounded_up (parts * 1000) (27 * rate) < 39 = lt_of_mul-lt-mul_right (27 * rate) (omega (arith, up.1, less)) in
    omega (arith, below)

pub whole_ticks_law : WholeTicksLaw
whole_ticks_law rate from line_bytes base line some same is =
    let x : ℕ = 216000000 * from + base in
    let d : ℕ = line_bytes * 216000000 in
    let e : 216000000 * (from + line_bytes) + base ≡ x + d = omega arith in
    let close = near rate x d line.ticks some (rw (sym e) is) in
    few (parts_off line rate 216000000) rate some (rw same close)
