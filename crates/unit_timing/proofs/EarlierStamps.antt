-- Units with earlier stamps and a lead that is shorter by the same time are sent in the same slots.
use Rattle.std.proofs.Common.{◌≡◌, ℕ, ◌+◌, ◌-◌, ◌<◌, ◌≤◌, Bool, List, [], ◌∷◌, take, map, refl, ap, ◌∙◌, sym, arith}
use Rattle.std.proofs.lemmas.List.{take-map}
use Rattle.std.proofs.lemmas.List.Sums.{sum_by-cons}
use Rattle.unit_timing.specs.declared.allowance.Allowance.{Allowance}
use Rattle.unit_timing.specs.declared.allowance.Allowance.TheVariants.{Groups, Pace}
use Rattle.unit_timing.specs.PesPacket.{PesPacket, packets_of_unit, packets_of_units, Spaced, Sized, GroupsWithin}
use Rattle.unit_timing.specs.Allowances.{Runs, Allows, KeepsAllowance, pace_curve}
use Rattle.unit_timing.specs.Schedule.{first_slot, packets_in_slots}
use Rattle.unit_timing.specs.Plans.{Declaration, KeepsDeclaration}
use Rattle.unit_timing.specs.Conditions.{IsProper}

-- The same packets with stamps that are `less` earlier
abbrev pub advanced : ℕ → List PesPacket → List PesPacket
advanced less units = map (λ u. let v : PesPacket = record { dts = u.dts - less; size = u.size; front = u.front } in v) units

pub advanced_none : (units : List PesPacket) → advanced 0 units ≡ units
advanced_none [] = refl
advanced_none (u ∷ units) =
    let e : u.dts - 0 ≡ u.dts = omega arith in
    let one : PesPacket = record { dts = u.dts; size = u.size; front = u.front } in
    rw e (ap (λ l. one ∷ l) (advanced_none units))

pub advanced_slots : (own : ℕ → Bool) (rate lead less free : ℕ) (units : List PesPacket) (slots : List ℕ) → less ≤ lead →
    packets_in_slots own rate (lead - less) free (advanced less units) slots ≡ packets_in_slots own rate lead free units slots
unfolding packets_in_slots first_slot
advanced_slots own rate lead less free [] slots le = refl
advanced_slots own rate lead less free (unit ∷ units) slots le =
    let same : unit.dts - less - (lead - less) ≡ unit.dts - lead = omega (arith, le) in
    rw (same, advanced_slots own rate lead less (first_slot own rate lead free unit + packets_of_unit unit) units slots le) refl

advanced_spaced : (apart from less : ℕ) (units : List PesPacket) → less ≤ from → Spaced apart from units → Spaced apart (from - less) (advanced less units)
unfolding Spaced
advanced_spaced apart from less [] le spaced = tt
advanced_spaced apart from less (unit ∷ units) le spaced =
    let e : unit.dts - less + apart ≡ unit.dts + apart - less = omega (arith, le, spaced.0) in
    (omega (arith, spaced.0), rw e (advanced_spaced apart (unit.dts + apart) less units (omega (arith, le, spaced.0)) spaced.1))

advanced_sized : (largest less : ℕ) (units : List PesPacket) → Sized largest units → Sized largest (advanced less units)
unfolding Sized
advanced_sized largest less [] sized = tt
advanced_sized largest less (unit ∷ units) sized = (sized.0, advanced_sized largest less units sized.1)

advanced_packets : (less : ℕ) (units : List PesPacket) → packets_of_units (advanced less units) ≡ packets_of_units units
advanced_packets less [] = refl
advanced_packets less (unit ∷ units) =
    let earlier : PesPacket = record { dts = unit.dts - less; size = unit.size; front = unit.front } in
    sum_by-cons packets_of_unit earlier (advanced less units) ∙ ap (λ (n : ℕ). packets_of_unit unit + n) (advanced_packets less units)
    ∙ sym (sum_by-cons packets_of_unit unit units)

advanced_groups : (g most n less : ℕ) (units : List PesPacket) → GroupsWithin g most n units → GroupsWithin g most n (advanced less units)
unfolding GroupsWithin
advanced_groups g most n less [] within = tt
advanced_groups g most n less (unit ∷ units) within = (
  within.0,
  rw (
    take-map (λ u. let v : PesPacket = record { dts = u.dts - less; size = u.size; front = u.front } in v) g (unit ∷ units),
    advanced_packets less (take g (unit ∷ units)),
  ) within.1,
  advanced_groups g most n less units within.2,
)

advanced_runs : (allowed : ℕ → ℕ) (first sent less : ℕ) (units : List PesPacket) → less ≤ first → Runs packets_of_unit allowed first sent units →
    Runs packets_of_unit allowed (first - less) sent (advanced less units)
unfolding Runs
advanced_runs allowed first sent less [] le runs = tt
advanced_runs allowed first sent less (unit ∷ units) le runs =
    let e : unit.dts - less - (first - less) ≡ unit.dts - first = omega (arith, le) in
    (rw e runs.0, advanced_runs allowed first (sent + packets_of_unit unit) less units le runs.1)

advanced_allows : (allowed : ℕ → ℕ) (apart from less : ℕ) (units : List PesPacket) → less ≤ from → Spaced apart from units →
    Allows packets_of_unit allowed units → Allows packets_of_unit allowed (advanced less units)
unfolding Allows Spaced
advanced_allows allowed apart from less [] le spaced allows = tt
advanced_allows allowed apart from less (unit ∷ units) le spaced allows = (
  advanced_runs allowed unit.dts 0 less (unit ∷ units) (omega (arith, le, spaced.0)) allows.0,
  advanced_allows allowed apart (unit.dts + apart) less units (omega (arith, le, spaced.0)) spaced.1 allows.1,
)

advanced_allowance : (a : Allowance) (n apart from less : ℕ) (units : List PesPacket) → less ≤ from → Spaced apart from units → KeepsAllowance a n units →
    KeepsAllowance a n (advanced less units)
advanced_allowance (Groups g most) n apart from less units le spaced keeps = advanced_groups g most n less units keeps
advanced_allowance (Pace burst pace) n apart from less units le spaced keeps = advanced_allows (pace_curve burst pace) apart from less units le spaced keeps

-- The declaration with a lead that is shorter by `less`, and a main buffer of `size` bytes
abbrev pub shorter : Declaration → ℕ → ℕ → Declaration
shorter s less size = record s { lead = s.lead - less; main = size }

pub keeps_shorter : (s : Declaration) (less size : ℕ) (units : List PesPacket) → less < s.lead → KeepsDeclaration s units →
    KeepsDeclaration (shorter s less size) (advanced less units)
keeps_shorter s less size units lt keeps = record {
  spaced = advanced_spaced s.interval s.lead less units (omega (arith, lt)) keeps.spaced;
  sized = advanced_sized s.largest less units keeps.sized;
  allowed = advanced_allowance s.allowance s.unit_packets s.interval s.lead less units (omega (arith, lt)) keeps.spaced keeps.allowed;
}

pub proper_shorter : (rate : ℕ) (s : Declaration) (less size : ℕ) → less < s.lead → IsProper rate s → IsProper rate (shorter s less size)
proper_shorter rate s less size lt proper = record {
  some_rate = proper.some_rate;
  some_interval = proper.some_interval;
  some_lead = omega (arith, lt);
  some_drain = proper.some_drain;
  some_rows = proper.some_rows;
}
