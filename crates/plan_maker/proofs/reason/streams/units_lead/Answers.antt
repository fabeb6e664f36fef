use Rattle.std.proofs.Common.{ℕ, ◌+◌, ◌*◌, ◌/◌, ◌^◌, ◌<◌, ◌≤◌, arith}
use Rattle.std.specs.Int.{div_ceil}
use Rattle.std.proofs.Math.Nat.{mul-le-mul_left, div-mul-le_self}
use Rattle.std.proofs.lemmas.Nat.{mul-le}
use Rattle.clock27.proofs.MinMax.{max_is}
use Rattle.plan_maker.proofs.reason.streams.units_lead.Goals as goal

-- A quotient of a number below 2 ^ 90 by a number of at least 2 ^ 32 is below 2 ^ 64.
short : (x y : ℕ) → x < 2 ^ 90 → 2 ^ 32 ≤ y → div_ceil x y < 2 ^ 64
short x y few some = omega (arith, div-mul-le_self x y, mul-le-mul_left (x / y) some, few)

pub overflow_cast-div_ceil : goal.overflow_cast-div_ceil
overflow_cast-div_ceil c =
    let s = c.args.stream.now in
    let r = c.requires.ranges in
    let rate : ℕ = c.bits_per_second-rate.result in
    let high : c.max.result ≤ 200000000 =
    omega (arith, c.max.ensures, max_is rate s.rx, c.bits_per_second-rate.ensures.value, c.bits_per_second-rate.ensures.greatest, r.most_rx) in
    let top = mul-le c.packets_in_row-packets.result c.max.result 1391360 200000000 (c.packets_in_row-packets.ensures.bound r) high in
    let slow : 100000 ≤ rate = omega (arith, c.bits_per_second-rate.ensures.value, c.bits_per_second-rate.ensures.least) in
    let fast : rate ≤ 100000000 = omega (arith, c.bits_per_second-rate.ensures.value, c.bits_per_second-rate.ensures.greatest) in
    let bottom = mul-le 100000 64000 rate s.rx slow r.least_rx in
    let x : ℕ = (c.packets_in_row-packets.result * c.max.result + s.rx + rate) * 135360000 in
    record { fits = omega (arith, c.div_ceil.ensures, short x (rate * s.rx) (omega (arith, top, fast, r.most_rx)) (omega (arith, bottom))) }
