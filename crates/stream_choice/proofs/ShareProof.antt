-- The own slots of a stream's share serve the stream.
use Rattle.std.proofs.Common.{◌≡◌, ℕ, zero-mul, ◌+◌, ◌-◌, ◌*◌, ◌<◌, ◌≤◌, arith, sym, subst, mul-le-mul_left, mul-le-mul_right}
use Rattle.std.specs.Int.{div_ceil}
use Rattle.clock27.specs.Units.{slot_units_at_1bps}
use Rattle.clock27.specs.Units.{byte_units_at_1bps}
use Rattle.unit_timing.specs.Shares.{parts}
use Rattle.unit_timing.specs.declared.allowance.Allowance.TheVariants.{Groups, Pace}
use Rattle.stream_choice.specs.Shares.{packets_in_row, share_for_time, packet_distance, lateness, held_bytes, delay_before}
use Rattle.stream_choice.specs.ShareLaws.{ShareLaw}
use Rattle.stream_choice.proofs.Quotients.{some_of}
use Rattle.stream_choice.proofs.ShareTimes.{IsFree, is_free, freer, held_by, group_held, row_held}

-- The packets of some time fit into own slots of the share.
sent : (w s x n c r : ℕ) → parts * w ≤ s * x → s * slot_units_at_1bps * n ≤ parts * (c * r) → w * n * slot_units_at_1bps ≤ c * r * x
sent w s x n c r packets enough = omega (arith, mul-le-mul_right n packets, mul-le-mul_right x enough)

-- Three slots fit into their time.
slots : (w a r : ℕ) → 3 * parts ≤ w * a → a * slot_units_at_1bps ≤ parts * r → 3 * slot_units_at_1bps ≤ w * r
slots w a r three fast = omega (arith, three, mul-le-mul_left w fast)

-- One distance of own slots fits into its time.
distance : (g s s' n c r : ℕ) → parts ≤ g * s → s ≤ s' → s' * slot_units_at_1bps * n ≤ parts * (c * r) → n * slot_units_at_1bps ≤ g * (c * r)
distance g s s' n c r one le enough =
    omega (arith, mul-le-mul_right n one, mul-le-mul_right n (mul-le-mul_left g le), mul-le-mul_left g enough)

-- The waiting bytes of a buffer fit into their time.
waited : (h w x r p : ℕ) → h * byte_units_at_1bps ≤ w * x → p ≤ h * r → p * byte_units_at_1bps ≤ w * x * r
waited h w x r p one room = omega (arith, mul-le-mul_right r one, room)

-- All these bounds together
together : (a w n c p x d e f g r : ℕ) → a ≤ 2 * c + n → w * n * slot_units_at_1bps ≤ c * r * f → 3 * slot_units_at_1bps ≤ e * r →
    n * slot_units_at_1bps ≤ g * (c * r) →
    p * byte_units_at_1bps ≤ d * x * r → (a + w * n + c) * slot_units_at_1bps * x + c * p * byte_units_at_1bps ≤ c * (f + (d + e + g)) * r * x
together a w n c p x d e f g r even row three one room = omega (
  arith,
  mul-le-mul_right x even,
  mul-le-mul_right x row,
  mul-le-mul_left c (mul-le-mul_right x three),
  mul-le-mul_right x one,
  mul-le-mul_left c room,
)

-- Packets arrive at the pace of the share.
paced : (p s k n c r : ℕ) → parts * p ≤ s * k → s * k * n ≤ parts * (c * r) → p * n ≤ c * 1 * r
paced p s k n c r pace enough = omega (arith, mul-le-mul_right n pace, enough)

positive : (a b : ℕ) → 1 ≤ a → 1 ≤ b → 0 < a * b
positive a b p q = omega (arith, mul-le-mul_right b p, q)

pub share_law : ShareLaw
share_law buffer needs (Groups group packets) lead share all rate own ranges units some found has =
    let held : ℕ = held_bytes buffer in
    let w : ℕ = delay_before buffer needs all in
    let h : IsFree needs group packets w lead share = is_free needs group packets w lead share found in
    let interval : 0 < group * needs.interval = positive group needs.interval units.some_units ranges.some_interval in
    let first : ℕ = share_for_time needs group packets h.first in
    let d : ℕ = div_ceil (held * byte_units_at_1bps) needs.rx in
    let e : ℕ = div_ceil (3 * parts) all in
    let group_share : parts * packets ≤ share * (group * needs.interval) =
    subst (λ (s : ℕ). parts * packets ≤ s * (group * needs.interval)) (sym h.same) (group_held needs group packets h.free interval) in
    let grown : first ≤ share = subst (λ (s : ℕ). first ≤ s) (sym h.same) (freer needs group packets h.free h.first h.some_free h.order) in
    let one : own.period * slot_units_at_1bps ≤ packet_distance first * (own.count * rate) =
    distance (packet_distance first) first share own.period own.count rate
    (held_by parts first (some_of packets first (group * needs.interval) units.some_packets (group_held needs group packets h.first interval))) grown
    has.enough in
    let three : 3 * slot_units_at_1bps ≤ e * rate = slots e all rate (held_by (3 * parts) all some) has.fast in
    let room : own.peak * byte_units_at_1bps ≤ d * needs.rx * rate =
    waited held d needs.rx rate own.peak (held_by (held * byte_units_at_1bps) needs.rx (omega (arith, ranges.least_rx))) has.room in
    record {
      rate_serves = omega (arith, sent packets share (group * needs.interval) own.period own.count rate group_share has.enough);
      lead_serves = λ m pos le.
          let free : ℕ = h.free + (m - 1) * needs.interval in
          let packets_row : parts * packets_in_row needs packets m ≤ share * free =
          subst (λ (s : ℕ). parts * packets_in_row needs packets m ≤ s * free) (sym h.same) (row_held needs group packets h.free m h.some_free pos le) in
          let row = sent (packets_in_row needs packets m) share free own.period own.count rate packets_row has.enough in
          let sum : lead + (m - 1) * needs.interval ≡ free + (d + e + packet_distance first) = omega (arith, h.whole) in
          let all = together own.spread (packets_in_row needs packets m) own.period own.count own.peak needs.rx d e free (packet_distance first) rate has.even
          row three one room in
          rw sum (all);
    }
share_law buffer needs (Pace burst pace) lead share all rate own ranges within some asks has =
    let held : ℕ = held_bytes buffer in
    let d : ℕ = div_ceil (held * byte_units_at_1bps) needs.rx in
    let e : ℕ = div_ceil (3 * parts) all in
    let late : ℕ = lateness (delay_before buffer needs all) share in
    let pays : parts * pace ≤ share * slot_units_at_1bps =
    subst (λ (s : ℕ). parts * pace ≤ s * slot_units_at_1bps) (sym asks.0) (held_by (parts * pace) slot_units_at_1bps (omega arith)) in
    let pos : 0 < share = some_of pace share slot_units_at_1bps within.some_pace pays in
    let one : own.period * slot_units_at_1bps ≤ packet_distance share * (own.count * rate) =
    distance (packet_distance share) share share own.period own.count rate (held_by parts share pos) (omega arith) has.enough in
    let three : 3 * slot_units_at_1bps ≤ e * rate = slots e all rate (held_by (3 * parts) all some) has.fast in
    let room : own.peak * byte_units_at_1bps ≤ d * needs.rx * rate =
    waited held d needs.rx rate own.peak (held_by (held * byte_units_at_1bps) needs.rx (omega (arith, ranges.least_rx))) has.room in
    let free : 0 < lead - late = some_time burst share (lead - late) within.some_burst asks.1 in
    let row = sent burst share (lead - late) own.period own.count rate asks.1 has.enough in
    let all = together own.spread burst own.period own.count own.peak needs.rx d e (lead - late) (packet_distance share) rate has.even row three one room in
    record {
      rate_serves = paced pace share slot_units_at_1bps own.period own.count rate pays has.enough;
      lead_serves = λ m pos le.
          let sum : lead + (m - 1) * needs.interval ≡ (lead - late) + (d + e + packet_distance share) =
          alone lead m needs.interval ((lead - late) + (d + e + packet_distance share)) pos le (omega (arith, free)) in
          rw sum (all);
    }
  where
    some_time : (p s x : ℕ) → 1 ≤ p → parts * p ≤ s * x → 0 < x
    some_time p s x pos le = some_of p x s pos (omega (arith, le))

    alone : (a m x b : ℕ) → 0 < m → m ≤ 1 → a ≡ b → a + (m - 1) * x ≡ b
    alone a m x b pos le e = rw (one m pos le) (omega (arith, zero-mul x, e))
      where
        one : (m : ℕ) → 0 < m → m ≤ 1 → m - 1 ≡ 0
        one m pos le = omega (arith, pos, le)
