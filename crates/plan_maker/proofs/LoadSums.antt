-- Sums that grow by one element, and the loads of faster outputs.
use Rattle.std.proofs.Common.{◌≡◌, ℕ, zero, suc, ◌+◌, ◌-◌, ◌*◌, ◌/◌, ◌<◌, ◌≤◌, max, false, Bool, true, Option, Some, None, List, [], ◌∷◌, ◌++◌, length, take, get_or}
use Rattle.std.proofs.Common.{nat_le, refl, ap, sym, ◌∙◌, arith}
use Rattle.std.specs.Prelude.{IfSome, IsNone, option_map, if◌then◌else◌}
use Rattle.std.specs.List.{sum_by}
use Rattle.std.proofs.Math.Nat.{mul-le-mul_left, div-mul-le_self, zero-mul}
use Rattle.std.proofs.lemmas.Nat.{le-div}
use Rattle.std.proofs.lemmas.Bool.Decides.{nat_tests}
use Rattle.std.proofs.lemmas.List.Sums.{sum_by-append, sum_by-cons}
use Rattle.clock27.specs.Units.{slot_ms_at_1bps}
use Rattle.clock27.specs.LeastRate.{IsLeastRate, HasNoRate}
use Rattle.clock27.specs.declared.rate.TheConstants.{GREATEST_RATE}
use Rattle.description_parts.specs.Described.{Described}
use Rattle.description_parts.specs.Tables.{table_kinds, table_limit, round_packets, has_references}
use Rattle.slot_plan.specs.Numbered.{numbered}
use Rattle.slot_plan.proofs.NumberedLists.{numbered-more}
use Rattle.unit_timing.specs.Allowances.{steady_packets, steady_time}
use Rattle.unit_timing.specs.Shares.{parts}
use Rattle.plan_maker.specs.Clocks.{clock_limit}
use Rattle.plan_maker.specs.Loads.{stream_load, recurring_load, clock_load, total, load, has_slots, least_rate}
use Rattle.plan_maker.proofs.FirstNumbers.{first_fails, first_here}
use Rattle.plan_maker.proofs.OwnSlotCounts.{each_at_most}

-- One more element

pub total_more : {A : Type 0} (f : ℕ → A → ℕ) (xs : List A) (i : ℕ) (x : A) → i < length xs → x ≡ get_or xs i x →
    total f (take (i + 1) xs) ≡ total f (take i xs) + f i x
total_more f xs i x lt is =
    let before = numbered (λ j y. f j y ∷ []) 0 (take i xs) in
    let here : ℕ = f i (get_or xs i x) in
    let all : total f (take (i + 1) xs) ≡ sum_by (λ n. n) (before ++ here ∷ []) = ap (sum_by (λ (n : ℕ). n)) (numbered-more (λ j y. f j y ∷ []) xs i x lt) in
    omega (arith, all, sum_by-append (λ (n : ℕ). n) before (here ∷ []), sum_by-cons (λ (n : ℕ). n) here [], ap (f i) is)

-- A sum that depends on the numbers only.
pub number_more : {A : Type 0} (f : ℕ → ℕ) (xs : List A) (i : ℕ) → i < length xs → total (λ j _. f j) (take (i + 1) xs) ≡ total (λ j _. f j) (take i xs) + f i
number_more f xs i lt = total_more (λ j _. f j) xs i (get_or xs i (element xs i lt)) lt (same xs i lt)
  where
    element : {A : Type 0} (xs : List A) (i : ℕ) → i < length xs → A
    element [] i lt = absurd (omega arith)
    element (x ∷ xs) i lt = x

    again : {A : Type 0} (xs : List A) (i : ℕ) (x y : A) → i < length xs → get_or xs i x ≡ get_or xs i y
    again [] i x y lt = absurd (omega arith)
    again (z ∷ xs) zero x y lt = refl
    again (z ∷ xs) (suc i) x y lt = again xs i x y (omega (arith, lt))

    same : {A : Type 0} (xs : List A) (i : ℕ) (lt : i < length xs) → get_or xs i (element xs i lt) ≡ get_or xs i (get_or xs i (element xs i lt))
    same [] i lt = absurd (omega arith)
    same (x ∷ xs) zero lt = refl
    same (x ∷ xs) (suc i) lt = again xs i x (get_or xs i x) (omega (arith, lt))

-- Faster outputs

less_of : (x y z : ℕ) → 0 < y → y ≤ z → x / z ≤ x / y
less_of x y z pos le = le-div (x / z) x y pos (omega (arith, mul-le-mul_left (x / z) le, div-mul-le_self x z))

stream_less : (x t r r' : ℕ) → 0 < r → r ≤ r' → x / (t * r') ≤ x / (t * r)
stream_less x zero r r' pos le = rw (zero-mul, zero-mul) (omega arith)
stream_less x (suc t) r r' pos le = less_of x (suc t * r) (suc t * r') (omega (arith, pos)) (mul-le-mul_left (suc t) le)

recurring_less : (r r' limit k : ℕ) → r ≤ r' → recurring_load r' limit k ≤ recurring_load r limit k
recurring_less r r' limit k le =
    let near : limit * r / slot_ms_at_1bps ≤ limit * r' / slot_ms_at_1bps =
    le-div (limit * r / slot_ms_at_1bps) (limit * r') slot_ms_at_1bps (omega arith)
    (omega (arith, div-mul-le_self (limit * r) slot_ms_at_1bps, mul-le-mul_left limit le)) in
    less_of (parts * k) (max 1 (limit * r / slot_ms_at_1bps)) (max 1 (limit * r' / slot_ms_at_1bps)) (omega arith) (omega (arith, near))

if_less : (b : Bool) (x y : ℕ) → x ≤ y → (if b then x else 0) ≤ (if b then y else 0)
if_less true x y le = le
if_less false x y le = omega arith

pub load_less : (d : Described) (r r' : ℕ) → 0 < r → r ≤ r' → load d r' ≤ load d r
load_less d r r' pos le =
    let streams = each_at_most (λ _ s. stream_load r' s) (λ _ s. stream_load r s) 1 1 0 d.streams
    (λ i s is. omega (arith, stream_less (parts * steady_packets s.allowance) (steady_time s.allowance s.interval) r r' pos le)) in
    let pcrs = each_at_most (clock_load d r') (clock_load d r) 1 1 0 d.programs
    (λ i p is. let less : clock_load d r' (0 + i) p ≤ clock_load d r (0 + i) p =
    if_less (has_references d (0 + i)) (recurring_load r' (clock_limit d p) 1) (recurring_load r (clock_limit d p) 1)
    (recurring_less r r' (clock_limit d p) 1 le) in
    omega (arith, less)) in
    let tables = each_at_most (λ t _. recurring_load r' (table_limit d t) (round_packets d t)) (λ t _. recurring_load r (table_limit d t) (round_packets d t)) 1
    1 0 (table_kinds d)
    (λ t x is. omega (arith, recurring_less r r' (table_limit d (0 + t)) (round_packets d (0 + t)) le)) in
    omega (arith, streams, pcrs, tables)

-- If a faster output has too few slots, a slower output has too few too.
pub still_full : (d : Described) (r r' : ℕ) → 0 < r → r ≤ r' → has_slots d r' ≡ false → has_slots d r ≡ false
still_full d r r' pos le full =
    let more : parts < load d r' = over (load d r') parts full in
    under (load d r) parts (omega (arith, more, load_less d r r' pos le))
  where
    over : (a b : ℕ) → nat_le a b ≡ false → b < a
    over a b fails = grind (arith, nat_tests)

    under : (a b : ℕ) → b < a → nat_le a b ≡ false
    under a b lt = grind (arith, nat_tests)

-- The result of the search for the least rate is the first rate above the description's own that has enough slots.
pub is_least_rate : (d : Described) (from : ℕ) (found : Option ℕ) → from ≡ d.rate + 1 → IfSome found (IsLeastRate (has_slots d) from) →
    (IsNone found → HasNoRate (has_slots d) from) → found ≡ least_rate d
is_least_rate d from None same least none = sym (ap (option_map (λ more. d.rate + 1 + more))
    (first_fails (GREATEST_RATE - d.rate) (λ more. has_slots d (d.rate + 1 + more))
    (λ more lt. none refl (d.rate + 1 + more) (omega (arith, same)) (omega (arith, lt)))))
is_least_rate d from (Some rate) same least none =
    let is : IsLeastRate (has_slots d) from rate = least in
    let more : ℕ = rate - (d.rate + 1) in
    let back : d.rate + 1 + more ≡ rate = omega (arith, is.low, same) in
    let before = first_fails more (λ more. has_slots d (d.rate + 1 + more))
    (λ k lt. is.least (d.rate + 1 + k) (omega (arith, same)) (omega (arith, lt, is.low, same))) in
    let first = first_here (GREATEST_RATE - d.rate) (λ more. has_slots d (d.rate + 1 + more)) more (omega (arith, is.low, is.high, same)) before
    (ap (has_slots d) back ∙ is.enough) in
    sym (ap (option_map (λ more. d.rate + 1 + more)) first ∙ ap (λ (n : ℕ). Some n) back)
