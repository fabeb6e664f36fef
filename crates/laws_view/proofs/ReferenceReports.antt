-- What a report says of two consecutive clock references of a run: they are at most 100 ms apart, and within a tick of the rate.
use Rattle.std.proofs.Common.{◌≡◌, sym, ℕ, ◌+◌, ◌-◌, ◌*◌, ◌/◌, ◌%◌, ◌≤◌, ◌<◌, ◌&&◌, not, nat_lt, nat_le, Bool, true, false, Option, Some}
use Rattle.std.proofs.Common.{refl, subst, inl, inr, arith}
use Rattle.std.proofs.Math.Nat.{div-mul-le_self, lt-mul-div-succ, lt_of_mul-lt-mul_right}
use Rattle.std.proofs.lemmas.Bool.{cases_lt, le-leb, lt-ltb}
use Rattle.arrival.specs.declared.clock.ClockStep.{ClockStep}
use Rattle.arrival.specs.declared.clock.ClockStep.TheVariants.{GoesOn}
use Rattle.arrival.specs.declared.clock.PcrSample.{PcrSample}
use Rattle.arrival.specs.declared.clock.TimedSample.{TimedSample}
use Rattle.arrival.specs.declared.line.Line.{Line}
use Rattle.arrival.specs.Clock.{elapsed, goes_on, line_from, line_in, step_after, step_from}
use Rattle.tr101290.specs.declared.watch.PcrTiming.TheVariants.{ConstantRate}
use Rattle.tr101290.specs.Errors.{difference_in}
use Rattle.tr101290.specs.Measures.{inaccuracy_by, interval_after, interval_from, report_after, report_by, time_of_bytes}
use Rattle.tr101290.proofs.Rounding.{interval_law}
use Rattle.tr101290.proofs.WholeTicks.{whole_ticks_law}
use Rattle.laws_view.specs.ViewedReferences.{IsWithin}
use Rattle.laws_view.proofs.DueByClock.{reference_at}

-- The ticks from one clock reference to the next

-- The ticks between two values are their difference, even if the values wrap around.
elapsed_is : (a b c : ℕ) → a ≤ b → b - a < 2576980377600 →
    ((b + c) % 2576980377600 + 5153960755200 - (a + c) % 2576980377600) % 2576980377600 ≡ b - a
elapsed_is a b c le near = omega (arith, le, near)

-- If the clock runs on by at most 100 ms, its whole ticks rise by at most 2,700,000.
ticks_more : (rate x d : ℕ) → 0 < rate → rate ≤ d → d ≤ 2700000 * rate → (x / rate < (x + d) / rate) × ((x + d) / rate ≤ x / rate + 2700000)
ticks_more rate x d some least most =
    let low = div-mul-le_self x rate in
    let high = lt-mul-div-succ x some in
    let low' = div-mul-le_self (x + d) rate in
    let high' = lt-mul-div-succ (x + d) some in
    let more : x / rate < (x + d) / rate = lt_of_mul-lt-mul_right rate (omega (arith, low, high', least)) in
    let fewer : (x + d) / rate < x / rate + 2700001 = lt_of_mul-lt-mul_right rate (omega (arith, low', high, most)) in
    (more, omega (arith, fewer))

-- The clock at byte 10 of a packet, in ticks since the begin
abbrev pub ticks_of_packet : ℕ → ℕ → ℕ
ticks_of_packet rate i = 216000000 * (188 * i + 10) / rate

-- The next clock reference is in a later packet, within 100 ms.
pub record IsNext (rate m i : ℕ) : Type 0 where
  pub least : 100000 ≤ rate
  pub most : rate ≤ 100000000
  pub later : m < i
  pub soon : (188 * i + 10 - (188 * m + 10)) * 8000 ≤ 100 * rate

ticks_between : (rate m i : ℕ) → IsNext rate m i →
    (ticks_of_packet rate m < ticks_of_packet rate i) × (ticks_of_packet rate i ≤ ticks_of_packet rate m + 2700000)
ticks_between rate m i n =
    let x : ℕ = 216000000 * (188 * m + 10) in
    let d : ℕ = 216000000 * (188 * (i - m)) in
    let same : x + d ≡ 216000000 * (188 * i + 10) = omega (arith, n.later) in
    subst (λ (y : ℕ). (x / rate < y / rate) × (y / rate ≤ x / rate + 2700000)) same
    (ticks_more rate x d (omega (arith, n.least)) (omega (arith, n.most, n.later)) (omega (arith, n.soon, n.later)))

-- The report on the second clock reference

all_true : (a b c : Bool) → a ≡ true → b ≡ true → c ≡ true → (not false && a && b && c) ≡ true
all_true a b c x y z = rw (x, y, z) refl

sum_is : (t a b : ℕ) → t ≡ b - a → a < b → t + a ≡ b
sum_is t a b is more = omega (arith, is, more)

bytes_soon : (rate bytes : ℕ) → 100000 ≤ rate → bytes * 8000 ≤ 100 * rate → time_of_bytes rate bytes ≤ 2700000
bytes_soon rate bytes least soon = elim (cases_lt 2700000 (time_of_bytes rate bytes)) [
  | inl late ↦ let more = (interval_law rate bytes (omega (arith, least))).0 late in omega (arith, more, soon)
  | inr le ↦ le
]

elapsed_between : (rate base0 m i : ℕ) → IsNext rate m i →
    elapsed (reference_at rate base0 m).ticks (reference_at rate base0 i).ticks ≡ ticks_of_packet rate i - ticks_of_packet rate m
elapsed_between rate base0 m i n =
    let t = ticks_between rate m i n in
    elapsed_is (ticks_of_packet rate m) (ticks_of_packet rate i) (300 * base0) (omega (arith, t.0)) (omega (arith, t.1))

goes : (rate base0 m i : ℕ) → IsNext rate m i → goes_on (reference_at rate base0 m) (reference_at rate base0 i) ≡ true
goes rate base0 m i n =
    let t = ticks_between rate m i n in
    let e : ℕ = elapsed (reference_at rate base0 m).ticks (reference_at rate base0 i).ticks in
    let is : e ≡ ticks_of_packet rate i - ticks_of_packet rate m = elapsed_between rate base0 m i n in
    let later : nat_le (188 * m + 10 + 188) (188 * i + 10) ≡ true = le-leb (188 * m + 10 + 188) (188 * i + 10) (omega (arith, n.later)) in
    let some : nat_lt 0 e ≡ true = lt-ltb 0 e (rw is (omega (arith, t.0))) in
    let short : nat_le e 27000000 ≡ true = le-leb e 27000000 (rw is (omega (arith, t.1))) in
    all_true (nat_le (188 * m + 10 + 188) (188 * i + 10)) (nat_lt 0 e) (nat_le e 27000000) later some short

abbrev timed_reference : ℕ → ℕ → ℕ → ℕ → TimedSample
timed_reference rate base0 m moment = record { sample = reference_at rate base0 m; moment = moment }

on_line : (rate base0 m i moment : ℕ) → IsNext rate m i →
    step_after (Some (timed_reference rate base0 m moment)) (reference_at rate base0 i)
    ≡ GoesOn (line_from (timed_reference rate base0 m moment) (reference_at rate base0 i))
unfolding step_after step_from
on_line rate base0 m i moment n = rw (goes rate base0 m i n) refl

line_ticks : (rate base0 m i : ℕ) → IsNext rate m i →
    elapsed (reference_at rate base0 m).ticks (reference_at rate base0 i).ticks + (216000000 * (188 * m + 10) + 0) / rate
    ≡ (216000000 * (188 * m + 10 + (188 * i + 10 - (188 * m + 10))) + 0) / rate
line_ticks rate base0 m i n =
    let t = ticks_between rate m i n in
    let sum = sum_is (elapsed (reference_at rate base0 m).ticks (reference_at rate base0 i).ticks) (ticks_of_packet rate m) (ticks_of_packet rate i)
    (elapsed_between rate base0 m i n) t.0 in
    let first : 216000000 * (188 * m + 10) ≡ 216000000 * (188 * m + 10) + 0 = omega arith in
    let second : 216000000 * (188 * i + 10) ≡ 216000000 * (188 * m + 10 + (188 * i + 10 - (188 * m + 10))) + 0 = omega (arith, n.later) in
    subst (λ (y : ℕ). elapsed (reference_at rate base0 m).ticks (reference_at rate base0 i).ticks + (216000000 * (188 * m + 10) + 0) / rate ≡ y / rate) second
    (subst (λ (y : ℕ). elapsed (reference_at rate base0 m).ticks (reference_at rate base0 i).ticks + y / rate ≡ 216000000 * (188 * i + 10) / rate) first sum)

pub next_within : (rate base0 m i moment : ℕ) (line : Option Line) → IsNext rate m i →
    IsWithin (report_after (ConstantRate rate) (record { last = Some (timed_reference rate base0 m moment); line = line }) (reference_at rate base0 i))
unfolding interval_after interval_from inaccuracy_by difference_in line_in
next_within rate base0 m i moment line n =
    let before : TimedSample = timed_reference rate base0 m moment in
    let sample : PcrSample = reference_at rate base0 i in
    let t = ticks_between rate m i n in
    let is = elapsed_between rate base0 m i n in
    let few : elapsed before.sample.ticks sample.ticks ≤ 2700000 = rw is (omega (arith, t.1)) in
    subst (λ (step : ClockStep). IsWithin (report_by (ConstantRate rate) (record { last = Some before; line = line }) sample step))
    (sym (on_line rate base0 m i moment n)) (record {
      interval = bytes_soon rate (188 * i + 10 - (188 * m + 10)) n.least n.soon;
      difference = few;
      inaccuracy = whole_ticks_law rate (188 * m + 10) (188 * i + 10 - (188 * m + 10)) 0 (line_from before sample) (omega (arith, n.least)) refl
          (line_ticks rate base0 m i n);
    })
