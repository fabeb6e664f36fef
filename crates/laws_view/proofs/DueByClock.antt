-- A view finds a unit due at its stamp by each clock reference that the unit goes by, such as the references of a run that a multiplexer wrote.
use Rattle.std.proofs.Common.{◌≡◌, ℕ, ◌+◌, ◌-◌, ◌*◌, ◌/◌, ◌%◌, ◌^◌, ◌≤◌, ◌<◌, max, nat_lt, true, false, refl, inl, inr, arith}
use Rattle.std.proofs.Math.Nat.{div-le_of_le-mul, le-div_iff_mul-le, mul-le-mul_left, mul-le-mul_right}
use Rattle.std.proofs.lemmas.Bool.{cases_lt, le-ltb, lt-ltb}
use Rattle.clock27.specs.Reference.{pcr_ticks}
use Rattle.clock27.specs.Units.{slot_units_at_1bps}
use Rattle.pes_packet.specs.AccessUnits.{AccessUnit}
use Rattle.pes_packet.specs.Encoding.{on_wire}
use Rattle.arrival.specs.declared.clock.PcrSample.{PcrSample}
use Rattle.es_events.specs.Clocks.{ahead_of, due_at, due_tick, tick_of}
use Rattle.tstd_rows.specs.ConstantRate.{due_time}
use Rattle.laws_view.specs.CarriedStreams.{GoesBy}
use Rattle.laws_view.specs.StreamPackets.{most_packets}

-- If the stamp is not before the clock, the difference is the ticks from the clock to the stamp.
ahead_is : (t dts base0 : ℕ) → t ≤ 300 * dts → 300 * dts - t < 2576980377600 →
    ((dts + base0) % 8589934592 % 8589934592 * 300 + 2576980377600 - (t + 300 * base0) % 2576980377600) % 2576980377600 ≡ 300 * dts - t
ahead_is t dts base0 le near = omega (arith, le, near)

-- If the stamp is before the clock, the difference wraps around.
behind_is : (t dts base0 : ℕ) → 300 * dts < t → t - 300 * dts < 2576980377600 →
    ((dts + base0) % 8589934592 % 8589934592 * 300 + 2576980377600 - (t + 300 * base0) % 2576980377600) % 2576980377600 ≡ 2576980377600 - (t - 300 * dts)
behind_is t dts base0 lt near = omega (arith, lt, near)

-- A unit that goes by a clock reference is due at its stamp.
tick_is : (rate base0 : ℕ) (clock : PcrSample) (u : AccessUnit) → GoesBy rate base0 clock u → due_tick rate clock (on_wire (u.dts + base0)) ≡ 300 * u.dts
tick_is rate base0 clock u goes =
    let t : ℕ = tick_of rate clock in
    let agrees : clock.ticks % 2576980377600 ≡ (tick_of rate clock + 300 * base0) % 2576980377600 = goes.agrees in
    elim (cases_lt (300 * u.dts) t) [
      | inl before ↦
          let ahead : ahead_of clock (on_wire (u.dts + base0)) ≡ 2576980377600 - (tick_of rate clock - 300 * u.dts) =
          rw agrees (behind_is t u.dts base0 before (omega (arith, goes.late))) in
          let far : nat_lt (2576980377600 - (tick_of rate clock - 300 * u.dts)) (2576980377600 / 2) ≡ false =
          le-ltb (2576980377600 - (tick_of rate clock - 300 * u.dts)) (2576980377600 / 2) (omega (arith, goes.late)) in
          rw (ahead, far) (omega (arith, before, goes.late))
      | inr after ↦
          let ahead : ahead_of clock (on_wire (u.dts + base0)) ≡ 300 * u.dts - tick_of rate clock =
          rw agrees (ahead_is t u.dts base0 after (omega (arith, goes.soon))) in
          let near : nat_lt (300 * u.dts - tick_of rate clock) (2576980377600 / 2) ≡ true =
          lt-ltb (300 * u.dts - tick_of rate clock) (2576980377600 / 2) (omega (arith, goes.soon)) in
          rw (ahead, near) (omega (arith, after, goes.soon))
    ]

units_same : (y : ℕ) → ((300 * y + 215999999) / 216000000 ≡ (y + 719999) / 720000) × (300 * y / 216000000 ≡ y / 720000)
units_same y = (omega arith, omega arith)

pub due_by_clock : (rate rx base0 : ℕ) (clock : PcrSample) (u : AccessUnit) → GoesBy rate base0 clock u →
    due_at rate rx clock (on_wire (u.dts + base0)) ≡ due_time rate rx u.dts
due_by_clock rate rx base0 clock u goes =
    let due : due_tick rate clock (on_wire (u.dts + base0)) ≡ 300 * u.dts = tick_is rate base0 clock u goes in
    let parts : 300 * u.dts * (rate * rx) ≡ 300 * (u.dts * rate * rx) = omega arith in
    let both = units_same (u.dts * rate * rx) in
    rw (due, parts, both.0, both.1) refl

-- Units and clock references in a run

-- The clock reference in the packet at this index
abbrev pub reference_at : ℕ → ℕ → ℕ → PcrSample
reference_at rate base0 m = record { byte = 188 * m + 10; ticks = pcr_ticks rate base0 (188 * m + 10); discontinuity = false }

-- If a byte comes by the stamp, its whole ticks are at most the stamp's; if it comes shortly before, they are not much less.
tick_le : (rate a g : ℕ) → a ≤ g * rate → a / rate ≤ g
tick_le rate a g le = div-le_of_le-mul rate (let turned : a ≤ rate * g = omega (arith, le) in turned)

tick_near : (rate a g k : ℕ) → 0 < rate → g * rate ≤ a + k * rate → g ≤ a / rate + k + 1
tick_near rate a g k some le = elim (cases_lt (a / rate + k + 1) g) [
  | inl over ↦
      let far : a / rate + k + 2 ≤ g = omega (arith, over) in
      let room : (a / rate + 2) * rate ≤ a = omega (arith, le, mul-le-mul_right rate far) in
      let more : a / rate + 2 ≤ a / rate = (le-div_iff_mul-le {k = rate} {x = a / rate + 2} {y = a} some).1 room in
      absurd (omega (arith, more))
  | inr fine ↦ fine
]

-- The ticks of a byte in the first 2^40 bytes are at most 2^60.
tick_low : (rate m : ℕ) → 100000 ≤ rate → m < most_packets → 216000000 * (188 * m + 10) / rate ≤ 2 ^ 60
tick_low rate m least few =
    let le : 216000000 * (188 * m + 10) ≤ 2 ^ 60 * rate = omega (arith, few, mul-le-mul_left (2 ^ 60) least) in
    tick_le rate (216000000 * (188 * m + 10)) (2 ^ 60) le

-- A unit with a packet at index i goes by the last clock reference, which is in a packet up to index i.
pub run_goes_by : (rate base0 m i : ℕ) (u : AccessUnit) → 100000 ≤ rate → m ≤ i → i < most_packets → (188 * (i + 1) - (188 * m + 10)) * 8000 ≤ 100 * rate →
    i * slot_units_at_1bps ≤ u.dts * rate → u.dts * rate ≤ i * slot_units_at_1bps + 90000 * rate → GoesBy rate base0 (reference_at rate base0 m) u
run_goes_by rate base0 m i u least before few near on_time soon =
    let clock : PcrSample = reference_at rate base0 m in
    let a : ℕ = 216000000 * (188 * m + 10) in
    let t : ℕ = a / rate in
    let dts : ℕ = u.dts in
    let some : 0 < rate = omega (arith, least) in
    let one : max 1 rate ≡ rate = omega (arith, some) in
    let turned : (188 * m + 10) * 216000000 ≡ a = omega arith in
    let early : a ≤ (300 * dts + 21600) * rate = omega (arith, before, on_time, least) in
    let le : t ≤ 300 * dts + 21600 = tick_le rate a (300 * dts + 21600) early in
    let close : 300 * dts * rate ≤ a + 29700000 * rate = omega (arith, before, near, soon) in
    let short : 300 * dts ≤ t + 29700000 + 1 = tick_near rate a (300 * dts) 29700000 some close in
    let tick : tick_of rate clock ≡ t = rw (one, turned) (omega (arith, tick_low rate m least (omega (arith, before, few)))) in
    record {
      agrees = rw tick (omega arith);
      soon = rw tick (omega (arith, short));
      late = rw tick (omega (arith, le));
    }
