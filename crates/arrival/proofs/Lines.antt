-- Bytes on a line
use Rattle.std.proofs.Common.{◌^◌, ◌≡◌, ◌∙◌, sym, ℕ, zero, suc, ◌+◌, ◌-◌, ◌*◌, ◌/◌, ◌<◌, ◌≤◌, List, ◌∷◌, refl, ap, arith}
use Rattle.std.proofs.Math.Nat.{mul-div_cancel, mul-le-mul_left, mul-le-mul_right, div-mul-le_self, lt-mul-div-succ}
use Rattle.std.proofs.lemmas.Nat.{le-div}
use Rattle.clock27.specs.Arrival.{bytes_from}
use Rattle.arrival.specs.declared.line.Line.{Line}
use Rattle.arrival.specs.Rows.{times_in_row}
use Rattle.arrival.specs.Lines.{Reaches, constant_line, parts_at, arrival_at, arrivals_on}
use Rattle.arrival.specs.Clock.{IsClockLine}
use Rattle.arrival.specs.Laws.{ConstantMoments, ConstantScale, LineBegins, LineEnds, LinesMeet, LineRises, Rounded, ReachLaw}

-- At the next byte the parts have grown by the ticks of the line.
parts_next : (scale moment bytes ticks byte i : ℕ) → byte * ticks ≤ moment * bytes + i * ticks →
    scale * ((moment * bytes + i * ticks) - byte * ticks) + scale * ticks ≡ scale * ((moment * bytes + suc i * ticks) - byte * ticks)
parts_next scale moment bytes ticks byte i reaches =
    let e : ((moment * bytes + i * ticks) - byte * ticks) + ticks ≡ (moment * bytes + suc i * ticks) - byte * ticks = omega (arith, reaches) in
    rw (sym e) (omega arith)

-- Bytes on a line form a row.
pub row_on : (scale : ℕ) (line : Line) (i n : ℕ) → Reaches line i →
    times_in_row (scale * parts_at line i) (scale * line.ticks) line.bytes n ≡ arrivals_on scale line i n
unfolding times_in_row arrivals_on
row_on scale line i zero reaches = refl
row_on scale line i (suc n) reaches =
    let next : Reaches line (suc i) = omega (arith, reaches) in
    rw (parts_next scale line.moment line.bytes line.ticks line.byte i reaches)
    (ap (λ (ts : List ℕ). arrival_at scale line i ∷ ts) (row_on scale line (suc i) n next))

pub constant_moments : ConstantMoments
constant_moments rate i = let e : 1 * ((0 * rate + i * 216000000) - 0 * 216000000) ≡ 216000000 * i = omega arith in rw e refl

-- The quotient is a whole number of units.
whole : (scale bytes value : ℕ) → 0 < bytes → scale * (value * bytes) / bytes ≡ scale * value
whole scale bytes value some =
    let e : scale * (value * bytes) ≡ scale * value * bytes = omega arith in
    rw e (mul-div_cancel (scale * value) some)

constant_one : (rate drain i : ℕ) → 0 < rate → arrival_at (rate * drain) (constant_line rate) i ≡ 216000000 * (i * drain)
constant_one rate drain i some =
    let parts : (0 * rate + i * 216000000) - 0 * 216000000 ≡ i * 216000000 = omega arith in
    let e : rate * drain * (i * 216000000) ≡ 216000000 * (i * drain) * rate = omega arith in
    rw (parts, e) (mul-div_cancel (216000000 * (i * drain)) some)

pub constant_scale : ConstantScale
unfolding arrivals_on bytes_from
constant_scale rate drain i zero some = refl
constant_scale rate drain i (suc n) some =
    rw (constant_one rate drain i some) (ap (λ (ts : List ℕ). 216000000 * (i * drain) ∷ ts) (constant_scale rate drain (suc i) n some))

pub begins : LineBegins
begins scale line some =
    let e : parts_at line line.byte ≡ line.moment * line.bytes = omega arith in
    rw e (whole scale line.bytes line.moment some)

pub ends : LineEnds
ends scale line some =
    let e : parts_at line (line.byte + line.bytes) ≡ (line.moment + line.ticks) * line.bytes = omega arith in
    rw e (whole scale line.bytes (line.moment + line.ticks) some)

pub meet : LinesMeet
meet scale line next some some' byte moment =
    let e : arrival_at scale line next.byte ≡ scale * (line.moment + line.ticks) = rw byte (ends scale line some) in
    let f : arrival_at scale next next.byte ≡ scale * (line.moment + line.ticks) = rw (sym moment) (begins scale next some') in
    e ∙ sym f

-- A smaller dividend has no greater quotient.
div_le : (a b k : ℕ) → 0 < k → a ≤ b → a / k ≤ b / k
div_le a b k some le = le-div (a / k) b k some (omega (arith, div-mul-le_self a k, le))

pub rises : LineRises
rises scale line i j some le =
    let m = mul-le-mul_right line.ticks le in
    let p : parts_at line i ≤ parts_at line j = omega (arith, m) in
    div_le (scale * parts_at line i) (scale * parts_at line j) line.bytes some (mul-le-mul_left scale p)

pub rounded : Rounded
rounded scale line i some = (
  div-mul-le_self (scale * parts_at line i) line.bytes,
  omega (arith, lt-mul-div-succ (scale * parts_at line i) some),
)

pub reaches : ReachLaw
reaches line i is near =
    let far = mul-le-mul_right line.ticks near in
    let pace = mul-le-mul_left (2 ^ 24) is.short in
    let begun = mul-le-mul_right line.bytes is.begun in
    omega (arith, far, pace, begun, is.whole)

-- A bound on the parts of n bytes after byte i, on a clock's line
parts_bound : (line : Line) (i n : ℕ) → IsClockLine line → i + n ≤ 2 ^ 40 → parts_at line i + n * line.ticks ≤ (2 ^ 44 + 2 * 143618 * 2 ^ 40) * line.bytes
parts_bound line i n is end =
    let late : line.moment ≤ 2 ^ 44 + 143618 * 2 ^ 40 = omega (arith, is.soon, is.within) in
    let start = mul-le-mul_right line.bytes late in
    let far = mul-le-mul_right line.ticks end in
    let pace = mul-le-mul_left (2 ^ 40) is.short in
    let whole = mul-le-mul_left (143618 * 2 ^ 40) is.whole in
    omega (arith, start, far, pace, whole)

pub row_early : (line : Line) (drain i n : ℕ) → IsClockLine line → drain ≤ 200000000 → i + n ≤ 2 ^ 40 →
    drain * parts_at line i + n * (drain * line.ticks) ≤ 2 ^ 86 * line.bytes
row_early line drain i n is slow end =
    let parts = mul-le-mul_left drain (parts_bound line i n is end) in
    let rate = mul-le-mul_right ((2 ^ 44 + 2 * 143618 * 2 ^ 40) * line.bytes) slow in
    omega (arith, parts, rate)
