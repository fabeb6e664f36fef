-- Units within a declaration keep its function of time.
use Rattle.std.proofs.Common.{◌≡◌, ℕ, suc, ◌+◌, ◌-◌, ◌*◌, ◌/◌, ◌<◌, ◌≤◌, List, [], ◌∷◌, take, arith, sum_by}
use Rattle.std.proofs.Math.Nat.{le_trans, mul-le-mul_left, mul-le-mul_right, div-lt_iff_lt-mul}
use Rattle.std.proofs.lemmas.Nat.{le-div}
use Rattle.std.proofs.lemmas.List.Sums.{sum_by-cons}
use Rattle.unit_timing.specs.declared.allowance.Allowance.{Allowance}
use Rattle.unit_timing.specs.declared.allowance.Allowance.TheVariants.{Groups, Pace}
use Rattle.unit_timing.specs.PesPacket.{PesPacket, packets_of_unit, Spaced, Sized, GroupsWithin}
use Rattle.unit_timing.specs.Allowances.{group_curve, size_curve, curve, Runs, Allows, KeepsAllowance, allowance_rows, packets_within, IsRising, AllowanceLaw}
use Rattle.unit_timing.proofs.GroupLemmas.{filled, filled_few, filled_rises, filled_grouped, div_rises, sized_few}

-- Unit number m after the first, counted from 0, is due at least m distances after the first.
number_within : (first m apart due : ℕ) → 0 < apart → first + m * apart ≤ due → m ≤ (due - first) / apart
number_within first m apart due pos le = le-div m (due - first) apart pos (omega (arith, le))

-- A bound q m on any m + 1 units in a row gives a bound on the units within a time.
counted : (f : PesPacket → ℕ) (q : ℕ → ℕ) (apart first : ℕ) → 0 < apart → IsRising q → (units : List PesPacket) (m sent from : ℕ) → Spaced apart from units →
    first + m * apart ≤ from → ((k : ℕ) → sent + sum_by f (take (suc k) units) ≤ q (m + k)) → Runs f (λ time. q (time / apart)) first sent units
unfolding Spaced Runs
counted f q apart first pos rises [] m sent from spaced near few = tt
counted f q apart first pos rises (unit ∷ units) m sent from spaced near few =
    let due : first + m * apart ≤ unit.dts = omega (arith, near, spaced.0) in
    let next : first + suc m * apart ≤ unit.dts + apart = omega (arith, due) in
    let zero_more : m + 0 ≡ m = omega arith in
    let here : sent + f unit ≤ q m = omega (arith, rw zero_more at (few 0), sum_by-cons f unit []) in (
      le_trans here (rises m ((unit.dts - first) / apart) (number_within first m apart unit.dts pos due)),
      counted f q apart first pos rises units (suc m) (sent + f unit) (unit.dts + apart) spaced.1 next
          (λ k.
          let e : suc m + k ≡ m + suc k = omega arith in
          rw e (omega (arith, few (suc k), sum_by-cons f unit (take (suc k) units)))),
    )

-- A stretch keeps the bound on the units within a time, from its first unit on.
from_first : (f : PesPacket → ℕ) (q : ℕ → ℕ) (apart from : ℕ) (unit : PesPacket) (units : List PesPacket) → 0 < apart → IsRising q →
    Spaced apart from (unit ∷ units) →
    ((k : ℕ) → sum_by f (take (suc k) (unit ∷ units)) ≤ q k) → Runs f (λ time. q (time / apart)) unit.dts 0 (unit ∷ units)
unfolding Spaced
from_first f q apart from unit units pos rises spaced few =
    let same : unit.dts ≤ unit.dts = omega arith in
    let near : unit.dts + 0 * apart ≤ unit.dts = omega arith in
    counted f q apart unit.dts pos rises (unit ∷ units) 0 0 unit.dts (same, spaced.1) near
    (λ k. let e : 0 + k ≡ k = omega arith in rw e (omega (arith, few k)))

filled_rising : (g most n : ℕ) → 0 < g → IsRising (filled g most n)
filled_rising g most n some = λ m k le. filled_rises g most n m k some le

sizes_rising : (largest : ℕ) → IsRising (λ m. suc m * largest)
sizes_rising largest = λ m k le. let le' : suc m ≤ suc k = omega (arith, le) in mul-le-mul_right largest le'

groups_allow : (g most n apart from : ℕ) (units : List PesPacket) → 0 < g → 0 < apart → Spaced apart from units → GroupsWithin g most n units →
    Allows packets_of_unit (group_curve g most n apart) units
unfolding Spaced GroupsWithin Allows
groups_allow g most n apart from [] some pos spaced keeps = tt
groups_allow g most n apart from (unit ∷ units) some pos spaced keeps = (
  from_first packets_of_unit (filled g most n) apart from unit units pos (filled_rising g most n some) spaced (filled_few g most n (unit ∷ units) some keeps),
  groups_allow g most n apart (unit.dts + apart) units some pos spaced.1 keeps.2,
)

sizes_allow : (largest apart from : ℕ) (units : List PesPacket) → 0 < apart → Spaced apart from units → Sized largest units →
    Allows (λ unit. unit.size) (size_curve largest apart) units
unfolding Spaced Sized Allows
sizes_allow largest apart from [] pos spaced sized = tt
sizes_allow largest apart from (unit ∷ units) pos spaced sized = (
  from_first (λ t. t.size) (λ m. suc m * largest) apart from unit units pos (sizes_rising largest) spaced (λ k. sized_few largest (suc k) (unit ∷ units) sized),
  sizes_allow largest apart (unit.dts + apart) units pos spaced.1 sized.1,
)

-- ---- Both kinds of allowance

kept_allows : (a : Allowance) (n apart from : ℕ) (units : List PesPacket) → 0 < allowance_rows a → 0 < apart → Spaced apart from units →
    KeepsAllowance a n units →
    Allows packets_of_unit (curve a n apart) units
kept_allows (Groups g most) n apart from units some pos spaced keeps = groups_allow g most n apart from units some pos spaced keeps
kept_allows (Pace burst pace) n apart from units some pos spaced keeps = keeps

curve_rises : (a : Allowance) (n apart : ℕ) → 0 < allowance_rows a → 0 < apart → IsRising (curve a n apart)
curve_rises (Groups g most) n apart some pos = λ early late le. filled_rises g most n (early / apart) (late / apart) some (div_rises early late apart pos le)
curve_rises (Pace burst pace) n apart some pos = λ early late le. omega (arith, mul-le-mul_left pace le)

pub allowance_law : AllowanceLaw
allowance_law = record {
  kept = kept_allows;
  sized = sizes_allow;
  rises = curve_rises;
  sizes_rise = λ largest apart pos early late le. sizes_rising largest (early / apart) (late / apart) (div_rises early late apart pos le);
}

-- ---- The units that are due within a lead

-- If two units are due less than `lead` apart, fewer than `units` distances lie between them.
unit_within : (apart lead units : ℕ) → 0 < apart → 0 < lead → lead ≤ units * apart → (lead - 1) / apart < units
unit_within apart lead units pos some wide = (div-lt_iff_lt-mul pos).1 (omega (arith, some, wide))

pub curve_within : (a : Allowance) (n apart lead units : ℕ) → 0 < allowance_rows a → 0 < apart → 0 < lead → lead ≤ units * apart →
    curve a n apart (lead - 1) ≤ packets_within a n units lead
curve_within (Groups g most) n apart lead units some pos pos' wide =
    filled_grouped g most n ((lead - 1) / apart) units some (unit_within apart lead units pos pos' wide)
curve_within (Pace burst pace) n apart lead units some pos pos' wide =
    let le : lead - 1 ≤ lead = omega arith in
    omega (arith, mul-le-mul_left pace le)

pub sizes_within : (largest apart lead units : ℕ) → 0 < apart → 0 < lead → lead ≤ units * apart → size_curve largest apart (lead - 1) ≤ units * largest
sizes_within largest apart lead units pos pos' wide =
    let le : suc ((lead - 1) / apart) ≤ units = unit_within apart lead units pos pos' wide in
    mul-le-mul_right largest le
