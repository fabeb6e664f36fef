-- The main buffer counted by units: the units with bytes in it are due within the lead of one another
use Rattle.std.proofs.Common.{◌≡◌, ℕ, suc, ◌+◌, ◌-◌, ◌*◌, ◌<◌, ◌≤◌, Bool, true, cond, nat_le, nat_lt, ◌&&◌, List, [], ◌∷◌, take, drop, inl, inr, arith}
use Rattle.std.proofs.Math.Nat.{le_trans, mul-le-mul_left, mul-le-mul_right}
use Rattle.std.proofs.lemmas.Bool.{cases_Bool, cases_lt, le-leb, leb-true, lt-ltb, ltb-true, and_parts, and_from}
use Rattle.std.proofs.lemmas.List.Elements.{All-weaker}
use Rattle.clock27.specs.Release.{release}
use Rattle.own_slots.specs.Slots.{own_slots}
use Rattle.unit_timing.specs.PesPacket.{PesPacket, packets_of_unit}
use Rattle.unit_timing.specs.Allowances.{Runs, Allows, IsRising}
use Rattle.unit_timing.specs.Schedule.{first_slot, cut, packets_in_slots}
use Rattle.unit_timing.specs.Transport.{NoneLeavesEarly}
use Rattle.unit_timing.specs.MainBuffer.{mb_fullness, ByCurve}
use Rattle.unit_timing.proofs.MainBufferBytes.{kept, kept_le, kept_after, kept_before, unit_slots}
use Rattle.unit_timing.proofs.NotEarly.{few_left, unit_later, unit_parts}

-- A unit is live at x if it may have been released before x, and x lies before its stamp.
abbrev is_live : ℕ → ℕ → ℕ → ℕ → PesPacket → Bool
is_live rate lead r x unit = nat_le ((unit.dts - lead) * rate * r) (x * 720000) && nat_lt (x * 720000) (unit.dts * rate * r)

-- The sum of f over the live units
unfoldable live : (PesPacket → ℕ) → ℕ → ℕ → ℕ → ℕ → List PesPacket → ℕ
live f rate lead r x [] = 0
live f rate lead r x (unit ∷ units) = cond (is_live rate lead r x unit) (f unit) 0 + live f rate lead r x units

early_slot : (x rate lead r due s : ℕ) → x * 720000 < (due - lead) * rate * r → release rate lead due ≤ s → suc x ≤ 188 * s * r
early_slot x rate lead r due s early le =
    let soon : (due - lead) * rate ≤ s * 135360000 = omega arith in
    omega (arith, early, mul-le-mul_right r soon)

-- Only a live unit has bytes in the main buffer, at most `each` times f.
kept_unit : (own : ℕ → Bool) (rate lead r x free n : ℕ) (unit : PesPacket) (each : ℕ) (f : PesPacket → ℕ) (left : List ℕ) → unit.size ≤ each * f unit →
    NoneLeavesEarly r (cut unit.front unit.size (take (packets_of_unit unit) (drop (first_slot own rate lead free unit) (own_slots own 0 n)))) left →
    kept rate r x unit.dts left ≤ each * cond (is_live rate lead r x unit) (f unit) 0
kept_unit own rate lead r x free n unit each f left few late =
    let xs = take (packets_of_unit unit) (drop (first_slot own rate lead free unit) (own_slots own 0 n)) in
    elim (cases_lt (x * 720000) ((unit.dts - lead) * rate * r)) [
      | inl early ↦
          let all = unit_later r unit.front unit.size (suc x) xs left late
          (All-weaker (λ s. release rate lead unit.dts ≤ s) (λ s. suc x ≤ 188 * s * r) (λ s le. early_slot x rate lead r unit.dts s early le) xs
          (unit_slots own rate lead free n unit)) in
          let none = kept_before rate r x unit.dts left all in
          omega (arith, none)
      | inr begun ↦ elim (cases_lt (x * 720000) (unit.dts * rate * r)) [
        | inr late ↦ omega (arith, kept_after rate r x unit.dts left late)
        | inl before ↦
            let is : is_live rate lead r x unit ≡ true =
            and_from _ _ (le-leb ((unit.dts - lead) * rate * r) (x * 720000) begun) (lt-ltb (x * 720000) (unit.dts * rate * r) before) in
            rw is (omega (arith, few, kept_le rate r x unit.dts left, few_left r unit.front unit.size xs left late))
      ]
    ]

main_units : (own : ℕ → Bool) (rate lead r n x each : ℕ) (f : PesPacket → ℕ) → ((unit : PesPacket) → unit.size ≤ each * f unit) →
    (units : List PesPacket) (free : ℕ) (left : List ℕ) → NoneLeavesEarly r (packets_in_slots own rate lead free units (own_slots own 0 n)) left →
    mb_fullness rate r x units left ≤ each * live f rate lead r x units
unfolding live mb_fullness packets_in_slots kept
main_units own rate lead r n x each f few [] free left late = omega arith
main_units own rate lead r n x each f few (unit ∷ units) free left late =
    let b = first_slot own rate lead free unit in
    let p = packets_of_unit unit in
    let parts = unit_parts own rate lead r n b p unit.front unit.size units left (omega arith) late in
    omega (
      arith,
      kept_unit own rate lead r x free n unit each f (take unit.size left) (few unit) parts.0,
      main_units own rate lead r n x each f few units (b + p) (drop unit.size left) parts.1,
    )

-- Two live units are due less than `lead` apart.
still_near : (rate lead r x first due : ℕ) → x * 720000 < first * rate * r → (due - lead) * rate * r ≤ x * 720000 → due - first ≤ lead - 1
still_near rate lead r x first due before begun = elim (cases_lt (due - lead) first) [
  | inl lt ↦ omega (arith, lt)
  | inr far ↦ absurd (omega (arith, before, begun, mul-le-mul_right (rate * r) far))
]

-- The live units after a live unit; `sent` is the sum over all units since then, and `count` the sum over the live ones
live_near : (f : PesPacket → ℕ) (allowed : ℕ → ℕ) (rate lead r x first : ℕ) → x * 720000 < first * rate * r → IsRising allowed →
    (units : List PesPacket) (count sent : ℕ) → count ≤ sent → count ≤ allowed (lead - 1) → Runs f allowed first sent units →
    count + live f rate lead r x units ≤ allowed (lead - 1)
unfolding live Runs
live_near f allowed rate lead r x first before rises [] count sent le few runs = omega (arith, few)
live_near f allowed rate lead r x first before rises (unit ∷ units) count sent le few runs = elim (cases_Bool (is_live rate lead r x unit)) [
  | inl is ↦
      let parts = and_parts (nat_le ((unit.dts - lead) * rate * r) (x * 720000)) (nat_lt (x * 720000) (unit.dts * rate * r)) is in
      let near = still_near rate lead r x first unit.dts before (leb-true ((unit.dts - lead) * rate * r) (x * 720000) parts.0) in
      let le' : count + f unit ≤ sent + f unit = omega (arith, le) in
      let few' : count + f unit ≤ allowed (lead - 1) = le_trans le' (le_trans runs.0 (rises (unit.dts - first) (lead - 1) near)) in
      let rest = live_near f allowed rate lead r x first before rises units (count + f unit) (sent + f unit) le' few' runs.1 in
      rw is (omega (arith, rest))
  | inr not ↦
      let le' : count ≤ sent + f unit = omega (arith, le) in
      rw not (omega (arith, live_near f allowed rate lead r x first before rises units count (sent + f unit) le' few runs.1))
]

live_few : (f : PesPacket → ℕ) (allowed : ℕ → ℕ) (rate lead r x : ℕ) → IsRising allowed → (units : List PesPacket) → Allows f allowed units →
    live f rate lead r x units ≤ allowed (lead - 1)
unfolding live Allows
live_few f allowed rate lead r x rises [] allows = omega arith
live_few f allowed rate lead r x rises (unit ∷ units) allows = elim (cases_Bool (is_live rate lead r x unit)) [
  | inl is ↦
      let parts = and_parts (nat_le ((unit.dts - lead) * rate * r) (x * 720000)) (nat_lt (x * 720000) (unit.dts * rate * r)) is in
      let near = live_near f allowed rate lead r x unit.dts (ltb-true (x * 720000) (unit.dts * rate * r) parts.1) rises (unit ∷ units) 0 0
      (omega arith) (omega arith) allows.0 in
      omega (arith, near)
  | inr not ↦ rw not (omega (arith, live_few f allowed rate lead r x rises units allows.1))
]

pub by_curve : ByCurve
by_curve own rate lead r each f allowed units n x left few rises allows late =
    le_trans (main_units own rate lead r n x each f few units 0 left late) (mul-le-mul_left each (live_few f allowed rate lead r x rises units allows))
