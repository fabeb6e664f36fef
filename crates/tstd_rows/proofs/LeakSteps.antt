-- The time that a byte takes to leave a multiplexing buffer
use Rattle.std.proofs.Common.{ℕ, ◌+◌, ◌-◌, ◌*◌, ◌/◌, ◌^◌, ◌<◌, ◌≤◌, arith}
use Rattle.std.proofs.Math.Nat.{div-le_of_le-mul, le-div_iff_mul-le, mul-le-mul, mul-pos}
use Rattle.tstd_rows.specs.VideoViewed.{leak_step}

pub leaks : (step rx rbx : ℕ) → 0 < step → 0 < rx → 64000 ≤ rbx → 0 < leak_step step rx rbx
leaks step rx rbx some drained leak =
    let pos : 0 < step * rx = mul-pos some drained in
    let part : 0 < rbx = omega (arith, leak) in
    let one : 1 ≤ (step * rx + (rbx - 1)) / rbx = (le-div_iff_mul-le {k = rbx} {x = 1} {y = step * rx + (rbx - 1)} part).1 (omega (arith, pos, part)) in
    omega (arith, one)

pub leak_slow : (step rx rbx : ℕ) → step ≤ 2 ^ 28 → rx ≤ 200000000 → 64000 ≤ rbx → leak_step step rx rbx ≤ 2 ^ 40
leak_slow step rx rbx slow few leak =
    let most : step * rx ≤ 2 ^ 28 * 200000000 = mul-le-mul slow few in
    div-le_of_le-mul rbx (omega (arith, most, leak))
