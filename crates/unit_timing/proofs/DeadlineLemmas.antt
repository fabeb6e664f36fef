-- Units that are sent without a gap
use Rattle.std.proofs.Common.{◌≡◌, ℕ, ◌+◌, ◌-◌, ◌*◌, ◌/◌, ◌<◌, ◌≤◌, max, Bool, List, [], ◌∷◌, inl, inr, arith}
use Rattle.std.proofs.Math.Nat.{mul-le-mul_right, le_of_mul-le-mul_left, mul-div-le, lt-mul-div-succ}
use Rattle.std.proofs.lemmas.Bool.{cases_lt}
use Rattle.clock27.specs.Release.{release}
use Rattle.own_slots.specs.Slots.{own_before}
use Rattle.unit_timing.specs.PesPacket.{PesPacket, packets_of_unit, Spaced}
use Rattle.unit_timing.specs.Allowances.{Runs, Allows}
use Rattle.unit_timing.specs.Schedule.{first_slot}
use Rattle.unit_timing.specs.Deadline.{EndsInTime, InTime, FitsLead, StretchLaw, DeadlineLaw}

-- The window after the release of a stretch's first unit ends in time for a unit that is due `time` after the first unit.
ends_early : (rel w wait rate r late lead time due : ℕ) → rel * 135360000 + 1 ≤ wait * rate + 135360000 →
    (w + 1) * 135360000 * r + late * 720000 ≤ (lead + time) * rate * r → lead + wait + time ≤ due →
    (rel + w) * 135360000 * r + late * 720000 ≤ due * rate * r
ends_early rel w wait rate r late lead time due soon keeps near =
    omega (arith, mul-le-mul_right r soon, keeps, mul-le-mul_right (rate * r) near)

-- A release is less than a slot after its time.
released_soon : (rate lead due : ℕ) → release rate lead due * 135360000 + 1 ≤ (due - lead) * rate + 135360000
released_soon rate lead due = omega arith

-- A stretch begins with a unit that is due at `first` and released at once; its `sent` packets so far lie before own slot number `free`. Its next unit, sent
-- directly after them, ends in time.
next_ends : (own : ℕ → Bool) (allowed : ℕ → ℕ) (rate lead r late first sent free : ℕ) (unit : PesPacket) →
    FitsLead own allowed rate lead r late (unit.dts - first) → lead ≤ first → first ≤ unit.dts → free ≤ own_before own (release rate lead first) + sent →
    sent + packets_of_unit unit ≤ allowed (unit.dts - first) → EndsInTime own rate r late (free + packets_of_unit unit) unit.dts
next_ends own allowed rate lead r late first sent free unit k soon le taken few = record {
  slot = release rate lead first + k.window;
  sent = omega (arith, few, k.serves (release rate lead first), taken);
  early = ends_early (release rate lead first) k.window (first - lead) rate r late lead (unit.dts - first) unit.dts
      (released_soon rate lead first) k.in_time (omega (arith, soon, le));
}

-- A unit that is released after all earlier packets were sent begins a stretch.
in_stretch : (own : ℕ → Bool) (allowed : ℕ → ℕ) (rate lead r late apart : ℕ) → ((time : ℕ) → FitsLead own allowed rate lead r late time) →
    (units : List PesPacket) (first sent free from : ℕ) → lead ≤ first → first ≤ from → free ≤ own_before own (release rate lead first) + sent →
    Runs packets_of_unit allowed first sent units → Spaced apart from units → Allows packets_of_unit allowed units → InTime own rate lead r late free units
unfolding Spaced Runs Allows InTime first_slot
in_stretch own allowed rate lead r late apart keeps [] first sent free from soon le taken runs spaced allows = tt
in_stretch own allowed rate lead r late apart keeps (unit ∷ units) first sent free from soon le taken runs spaced allows =
    let p = packets_of_unit unit in
    let begun = own_before own (release rate lead unit.dts) in
    let first_le : first ≤ unit.dts = omega (arith, le, spaced.0) in
    let lead_le : lead ≤ unit.dts = omega (arith, soon, first_le) in
    let next : first ≤ unit.dts + apart = omega (arith, first_le) in
    let same : unit.dts ≤ unit.dts = omega arith in
    let same_next : unit.dts ≤ unit.dts + apart = omega arith in
    elim (cases_lt free begun) [
      | inl fresh ↦
          let e : max free begun ≡ begun = omega (arith, fresh) in
          let none : begun ≤ begun + 0 = omega arith in
          let more : begun + p ≤ begun + (0 + p) = omega arith in
          rw e (
            next_ends own allowed rate lead r late unit.dts 0 begun unit (keeps (unit.dts - unit.dts)) lead_le same none allows.0.0,
            in_stretch own allowed rate lead r late apart keeps units unit.dts (0 + p) (begun + p) (unit.dts + apart) lead_le same_next more allows.0.1 spaced.1
                allows.1,
          )
      | inr on ↦
          let e : max free begun ≡ free = omega (arith, on) in
          let more : free + p ≤ own_before own (release rate lead first) + (sent + p) = omega (arith, taken) in
          rw e (
            next_ends own allowed rate lead r late first sent free unit (keeps (unit.dts - first)) soon first_le taken runs.0,
            in_stretch own allowed rate lead r late apart keeps units first (sent + p) (free + p) (unit.dts + apart) soon next more runs.1 spaced.1 allows.1,
          )
    ]

-- The run begins with a stretch.
pub stretch_law : StretchLaw
unfolding Spaced Allows InTime
stretch_law own allowed rate lead apart r late [] keeps spaced allows = tt
stretch_law own allowed rate lead apart r late (unit ∷ units) keeps spaced allows =
    let same : unit.dts ≤ unit.dts = omega arith in
    in_stretch own allowed rate lead r late apart keeps (unit ∷ units) unit.dts 0 0 unit.dts spaced.0 same (omega arith) allows.0 (same, spaced.1) allows

-- If there are enough slots for `few` packets, the last packet is sent early enough.
window_early : (share w base few cost r late rate due : ℕ) → 0 < share → share * w ≤ base + few * cost →
    (base + few * cost + share) * 135360000 * r + share * late * 720000 ≤ share * due * rate * r →
    (w + 1) * 135360000 * r + late * 720000 ≤ due * rate * r
window_early share w base few cost r late rate due pos wide paid =
    le_of_mul-le-mul_left {k = share} (omega (arith, mul-le-mul_right (135360000 * r) wide, paid)) pos

pub deadline_law : DeadlineLaw
deadline_law own share cost base allowed rate lead apart r late units serves some paid spaced allows =
    stretch_law own allowed rate lead apart r late units
    (λ time.
    let slots = base + allowed time * cost in
    record {
      window = slots / share;
      serves = serves (allowed time) (slots / share) (lt-mul-div-succ slots some);
      in_time = window_early share (slots / share) base (allowed time) cost r late rate (lead + time) some (mul-div-le slots share) (paid time);
    })
    spaced allows
