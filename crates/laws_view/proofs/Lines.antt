-- Arrival times of bytes on lines that meet.
use Rattle.std.proofs.Common.{◌≡◌, ℕ, ◌+◌, ◌-◌, ◌*◌, ◌/◌, ◌^◌, ◌≤◌, ◌<◌, arith}
use Rattle.std.specs.Prelude.{max}
use Rattle.std.proofs.Math.Nat.{mul-div_cancel, mul-le-mul_left, mul-le-mul_right, div-lt_iff_lt-mul, lt-mul-div-succ}
use Rattle.arrival.specs.declared.line.Line.{Line}
use Rattle.arrival.specs.Clock.{IsClockLine}
use Rattle.arrival.specs.Lines.{arrival_at, parts_at}
use Rattle.tstd_rows.proofs.EvenRows.{div_le}
use Rattle.arrival.specs.ArrivalClocks.{tick_after}

-- A byte arrives no later than the first whole tick that is not before it.
up : (parts bytes : ℕ) → 0 < bytes → parts ≤ (parts + (bytes - 1)) / max 1 bytes * bytes
up parts bytes some =
    let e : max 1 bytes ≡ bytes = omega (arith, some) in
    rw e (omega (arith, some, lt-mul-div-succ (parts + (bytes - 1)) some))

pub by_tick : (scale : ℕ) (line : Line) (i : ℕ) → 0 < line.bytes → arrival_at scale line i ≤ scale * tick_after line i
by_tick scale line i some =
    let t : ℕ = tick_after line i in
    let whole : scale * (t * line.bytes) ≡ scale * t * line.bytes = omega arith in
    let le = mul-le-mul_left scale (up (parts_at line i) line.bytes some) in
    let exact : scale * (t * line.bytes) / line.bytes ≡ scale * t = rw whole (mul-div_cancel (scale * t) some) in
    rw exact at (div_le (scale * parts_at line i) (scale * (t * line.bytes)) line.bytes some le)

-- The time of a byte is at most 2^44 ticks plus 143,618 ticks for each byte before it.
parts_soon : (line : Line) (d : ℕ) → IsClockLine line → parts_at line (line.byte + d) ≤ (2 ^ 44 + 143618 * (line.byte + d)) * line.bytes
parts_soon line d is =
    let begun = mul-le-mul_right line.bytes is.soon in
    let pace = mul-le-mul_left d is.short in
    let whole = mul-le-mul_left (143618 * d) is.whole in
    omega (arith, begun, pace, whole)

pub tick_soon : (line : Line) (i : ℕ) → IsClockLine line → line.byte ≤ i → tick_after line i ≤ 2 ^ 44 + 143618 * i
tick_soon line i is le =
    let some : 0 < line.bytes = omega (arith, is.whole) in
    let e : line.byte + (i - line.byte) ≡ i = omega (arith, le) in
    let m : max 1 line.bytes ≡ line.bytes = omega (arith, some) in
    let parts = rw e at (parts_soon line (i - line.byte) is) in
    let below : (parts_at line i + (line.bytes - 1)) / line.bytes < 2 ^ 44 + 143618 * i + 1 =
    (div-lt_iff_lt-mul some).1 (omega (arith, parts, some)) in
    rw m (omega (arith, below))
