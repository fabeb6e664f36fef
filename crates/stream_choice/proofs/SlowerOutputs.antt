-- Slots of a slower output: if slots have room at a rate, they have room at each higher rate.
use Rattle.std.proofs.Common.{◌≡◌, ℕ, ◌+◌, ◌*◌, ◌/◌, ◌<◌, ◌≤◌, ◌&&◌, Bool, true, false, List, nat_le, nat_lt, refl, sym, arith, mul-le-mul_left}
use Rattle.std.proofs.Common.{div-mul-le_self, true≢false}
use Rattle.std.specs.Prelude.{if◌then◌else◌}
use Rattle.std.specs.Int.{div_ceil}
use Rattle.std.proofs.lemmas.Nat.{le-div}
use Rattle.std.proofs.lemmas.Bool.Decides.{nat_tests}
use Rattle.std.proofs.lemmas.List.Sums.{sum_by-le-sum_by}
use Rattle.clock27.specs.Units.{slot_units_at_1bps}
use Rattle.clock27.specs.Units.{slot_ms_at_1bps}
use Rattle.stream_choice.specs.declared.recurring.Recurring.{Recurring}
use Rattle.unit_timing.specs.Shares.{parts}
use Rattle.stream_choice.specs.Rates.{stream_part, recurring_part, all_parts, has_slots}
use Rattle.stream_choice.proofs.Quotients.{at_most, less_of}

over : (a b : ℕ) → nat_le a b ≡ false → b < a
over a b fails = grind (arith, nat_tests)

under : (a b : ℕ) → b < a → nat_le a b ≡ false
under a b lt = grind (arith, nat_tests)

fits : (a b : ℕ) → (nat_lt 0 b && nat_le a b) ≡ true → (0 < b) × (a ≤ b)
fits a b e = (grind (arith, nat_tests), grind (arith, nat_tests))

fits_more : (a b c : ℕ) → b ≤ c → (nat_lt 0 b && nat_le a b) ≡ true → (nat_lt 0 c && nat_le a c) ≡ true
fits_more a b c le e = grind (arith, nat_tests, fits a b e)

abbrev gap_part : ℕ → ℕ → ℕ
gap_part slots gap = if nat_lt 0 gap && nat_le slots gap then div_ceil (parts * slots) gap else parts + 1

gap_less : (slots gap gap' : ℕ) → gap ≤ gap' → gap_part slots gap' ≤ gap_part slots gap
gap_less slots gap gap' le =
    step (nat_lt 0 gap && nat_le slots gap) (nat_lt 0 gap' && nat_le slots gap') (fits slots gap) (fits slots gap') (fits_more slots gap gap' le)
  where
    step : (b c : Bool) → (b ≡ true → (0 < gap) × (slots ≤ gap)) → (c ≡ true → (0 < gap') × (slots ≤ gap')) → (b ≡ true → c ≡ true) →
        (if c then div_ceil (parts * slots) gap' else parts + 1) ≤ (if b then div_ceil (parts * slots) gap else parts + 1)
    step true true f f' more = less_of (parts * slots) gap gap' (f refl).0 le
    step true false f f' more = absurd (true≢false (sym (more refl)))
    step false true f f' more = omega (arith, at_most (parts * slots) gap' parts (f' refl).0 (mul-le-mul_left parts (f' refl).1))
    step false false f f' more = omega arith

recurring_less : (r r' : ℕ) (x : Recurring) → r ≤ r' → recurring_part r' x ≤ recurring_part r x
recurring_less r r' x le = gap_less x.slots (x.limit * r / slot_ms_at_1bps) (x.limit * r' / slot_ms_at_1bps)
    (le-div (x.limit * r / slot_ms_at_1bps) (x.limit * r') slot_ms_at_1bps (omega arith)
    (omega (arith, div-mul-le_self (x.limit * r) slot_ms_at_1bps, mul-le-mul_left x.limit le)))

pub parts_less : (shares : List ℕ) (recurring : List Recurring) (r r' : ℕ) → 0 < r → r ≤ r' → all_parts shares recurring r' ≤ all_parts shares recurring r
parts_less shares recurring r r' pos le =
    let streams = sum_by-le-sum_by (stream_part r') (stream_part r) shares (λ share. less_of (share * slot_units_at_1bps) r r' pos le) in
    let others = sum_by-le-sum_by (recurring_part r') (recurring_part r) recurring (λ x. recurring_less r r' x le) in
    omega (arith, streams, others)

-- If an output has too few slots, a slower output has too few slots as well.
pub still_full : (shares : List ℕ) (recurring : List Recurring) (r r' : ℕ) → 0 < r → r ≤ r' → has_slots shares recurring r' ≡ false →
    has_slots shares recurring r ≡ false
still_full shares recurring r r' pos le full =
    under (all_parts shares recurring r) parts (omega (arith, over (all_parts shares recurring r') parts full, parts_less shares recurring r r' pos le))
