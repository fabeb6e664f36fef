-- Bytes that enter a main buffer while no byte leaves it, and bytes that enter after their unit is removed
use Rattle.std.proofs.Common.{◌≡◌, ◌∙◌, sym, ℕ, zero, suc, ◌+◌, ◌-◌, ◌*◌, ◌/◌, ◌≤◌, ◌<◌, max, cond, List, [], ◌∷◌, ◌++◌, length, refl, ap, inl, inr, arith, All}
use Rattle.std.proofs.Common.{true}
use Rattle.std.proofs.Math.Seq.{take-append_seam, drop-append_seam}
use Rattle.std.proofs.lemmas.Bool.{cases_lt, lt-ltb, le-ltb}
use Rattle.std.proofs.lemmas.Bool.Decides.{nat_tests}
use Rattle.std.proofs.lemmas.List.{length-append}
use Rattle.std.proofs.lemmas.List.Sums.{sum_by-cons, sum_by-append}
use Rattle.std.proofs.lemmas.List.Elements.{All-head, All-tail, All-take, All-drop}
use Rattle.clock27.specs.Peak.{greatest_at}
use Rattle.arrival.specs.Rows.{times_of, times_in_row, other_bytes}
use Rattle.arrival.specs.declared.row.Row.{Row}
use Rattle.tstd_rows.specs.TransportLaws.{Rises}
use Rattle.tstd.specs.BufferedUnits.{one_buffered, buffered_bytes, all_buffered, all_bytes, all_until}
use Rattle.tstd.specs.declared.buffered_units.BufferedUnit.{BufferedUnit}
use Rattle.tstd.proofs.BufferCounts.{early_there}
use Rattle.tstd.proofs.RisingTimes.{greatest_ext}
use Rattle.tstd_rows.specs.RowEntry.{has_entered, entered}
use Rattle.tstd_rows.proofs.RowEntries.{row_next, rest_rises, entered_one, one_entered}

-- Lists of times

pub all_first : (P : ℕ → Type 0) (ts us : List ℕ) → All P (ts ++ us) → All P ts
all_first P ts us all = rw (take-append_seam ts us) at (All-take P (length ts) (ts ++ us) all)

pub all_others : (P : ℕ → Type 0) (ts us : List ℕ) → All P (ts ++ us) → All P us
all_others P ts us all = rw (drop-append_seam ts us) at (All-drop P (length ts) (ts ++ us) all)

pub entered-append : (until x : ℕ) (ts us : List ℕ) → entered until x (ts ++ us) ≡ entered until x ts + entered until x us
entered-append until x ts us = sum_by-append (λ t. cond (has_entered until x t) 1 0) ts us

-- All bytes of the list have entered.
pub all_entered : (until x : ℕ) (ts : List ℕ) → All (λ t. t ≤ x) ts → entered until x ts ≡ length ts * one_buffered until x
all_entered until x [] all = omega arith
all_entered until x (t ∷ ts) all =
    omega (arith, one_entered until x t ts (All-head (λ t. t ≤ x) t ts all), all_entered until x ts (All-tail (λ t. t ≤ x) t ts all))

-- Once their unit is removed, no bytes of it are in the buffer.
pub none_stays : (until x : ℕ) (ts : List ℕ) → until ≤ x → entered until x ts ≡ 0
none_stays until x [] gone = refl
none_stays until x (t ∷ ts) gone = rw (sum_by-cons (λ s. cond (has_entered until x s) 1 0) t ts) (omega (arith, one until x t gone, none_stays until x ts gone))
  where
    one : (until x t : ℕ) → until ≤ x → (let n : ℕ = cond (has_entered until x t) 1 0 in n) ≡ 0
    one until x t gone = grind (arith, nat_tests)

pub length-row : (from pace parts n : ℕ) → length (times_in_row from pace parts n) ≡ n
unfolding times_in_row
length-row from pace parts zero = refl
length-row from pace parts (suc n) = omega (arith, length-row (from + pace) pace parts n)

-- A row is its first byte and the rest of the row.
pub row_first : (row : Row) (t : ℕ) → t ≡ (row.from + 0 * row.pace) / row.parts → 0 < row.bytes → times_of row ≡ t ∷ times_of (other_bytes row 1)
row_first row t is some =
    let e : row.from + 0 * row.pace ≡ row.from = omega arith in
    let f : row.bytes - 0 ≡ row.bytes = omega arith in
    let all : times_of row ≡ row.from / row.parts ∷ times_of (other_bytes row 1) =
    rw f at (rw e at (row_next row.from row.pace row.parts row.bytes 0 some)) in
    rw (is, e) all

pub divided : (row rest : Row) (t : ℕ) → t ≡ (row.from + 0 * row.pace) / row.parts → rest ≡ other_bytes row 1 → 0 < row.bytes → times_of row ≡ t ∷ times_of rest
divided row rest t is others some = rw others (row_first row t is some)

pub others_rise : (row rest : Row) (t : ℕ) → t ≡ (row.from + 0 * row.pace) / row.parts → rest ≡ other_bytes row 1 → 0 < row.parts → Rises t (times_of rest)
others_rise row rest t is others some = rw (is, others) (rest_rises row.from row.pace row.parts (row.bytes - 1) 0 some)

pub one_less : (row rest : Row) → rest ≡ other_bytes row 1 → 0 < row.bytes → rest.bytes + 1 ≡ row.bytes
one_less row rest others some = rw others (omega (arith, some))

-- A row is its first byte, the bytes that enter together with it, and the rest of the row.
pub in_three : (row rest first others : Row) (t : ℕ) → times_of row ≡ t ∷ times_of rest → times_of first ++ times_of others ≡ times_of rest →
    times_of row ≡ t ∷ times_of first ++ times_of others
in_three row rest first others t one two = one ∙ ap (λ (ts : List ℕ). t ∷ ts) (sym two)

-- If two rows make one row, the numbers of their bytes add up.
pub rows_bytes : (first others row : Row) → times_of first ++ times_of others ≡ times_of row → first.bytes + others.bytes ≡ row.bytes
rows_bytes first others row same =
    let all : length (times_of first ++ times_of others) ≡ length (times_of row) = ap length same in
    omega (
      arith,
      length-append (times_of first) (times_of others),
      all,
      length-row first.from first.pace first.parts first.bytes,
      length-row others.from others.pace others.parts others.bytes,
      length-row row.from row.pace row.parts row.bytes,
    )

-- The number of buffered bytes only falls.

buffered_falls : (x y : ℕ) (unit : BufferedUnit) → x ≤ y → buffered_bytes y unit ≤ buffered_bytes x unit
buffered_falls x y unit le = elim (cases_lt y unit.until) [
  | inl there ↦ rw (lt-ltb y unit.until there, lt-ltb x unit.until (omega (arith, le, there))) (omega arith)
  | inr gone ↦ rw (le-ltb y unit.until gone) (omega arith)
]

all_falls : (x y : ℕ) (units : List BufferedUnit) → x ≤ y → all_buffered y units ≤ all_buffered x units
unfolding all_buffered
all_falls x y [] le = omega arith
all_falls x y (unit ∷ units) le = omega (arith, buffered_falls x y unit le, all_falls x y units le)

pub fullness_falls : (units : List BufferedUnit) (current : BufferedUnit) (x y : ℕ) → x ≤ y →
    all_buffered y units + buffered_bytes y current ≤ all_buffered x units + buffered_bytes x current
fullness_falls units current x y le = omega (arith, all_falls x y units le, buffered_falls x y current le)

-- Before any unit is removed, all bytes are in the buffer.
pub all_there : (units : List BufferedUnit) (current : BufferedUnit) (next x : ℕ) → x < next → x < current.until → all_until next units ≡ true →
    all_buffered x units + buffered_bytes x current ≡ all_bytes units + current.bytes
all_there units current next x early stays until =
    rw (lt-ltb x current.until stays) (omega (arith, early_there x next units early until))

greatest_le : (f : ℕ → ℕ) (from most : ℕ) (ts : List ℕ) → Rises from ts → ((x : ℕ) → from ≤ x → f x ≤ most) → greatest_at f ts ≤ most
unfolding Rises greatest_at
greatest_le f from most [] rises le = omega arith
greatest_le f from most (t ∷ ts) rises le =
    omega (arith, le t rises.0, greatest_le f t most ts rises.1 (λ x after. le x (omega (arith, after, rises.0))))

-- Bytes that arrive after the removal of their unit

-- No later byte raises the most.
pub late_ones : (after : ℕ → ℕ) (until peak t : ℕ) (ts : List ℕ) → until ≤ t → Rises t ts → ((x y : ℕ) → x ≤ y → after y ≤ after x) → after t ≤ peak →
    max peak (greatest_at (λ x. after x + entered until x ts) ts) ≡ peak
late_ones after until peak t ts late rises falls le =
    let most = greatest_le (λ x. after x + entered until x ts) t peak ts rises
    (λ x low. omega (arith, none_stays until x ts (omega (arith, late, low)), falls t x low, le)) in
    omega (arith, most)

-- Bytes that enter while no byte leaves

-- A byte is in the buffer until its unit is removed.
there_one : (until x : ℕ) → x < until → one_buffered until x ≡ 1
there_one until x lt = rw (lt-ltb x until lt) refl

-- While bytes enter and no byte leaves, before `limit`, the last byte finds the most.
pub entered_together : (before : ℕ → ℕ) (until limit peak now : ℕ) (ts us : List ℕ) (from : ℕ) → Rises from (ts ++ us) → now ≤ peak → limit ≤ until →
    ((t : ℕ) → from ≤ t → t < limit → before t ≡ now) → All (λ t. t < limit) ts →
    max (max peak (now + length ts)) (greatest_at (λ x. before x + length ts * one_buffered until x + entered until x us) us)
    ≡ max peak (greatest_at (λ x. before x + entered until x (ts ++ us)) (ts ++ us))
unfolding Rises
entered_together before until limit peak now [] us from rises le within same all =
    let none = greatest_ext (λ x. before x + 0 * one_buffered until x + entered until x us) (λ x. before x + entered until x us) us (λ x. omega arith) in
    omega (arith, none, le)
entered_together before until limit peak now (t ∷ ts) us from rises le within same all =
    let early : t < limit = All-head (λ t. t < limit) t ts all in
    let one : one_buffered until t ≡ 1 = there_one until t (omega (arith, early, within)) in
    let here : before t ≡ now = same t rises.0 early in
    let after : ℕ → ℕ = λ x. before x + one_buffered until x in
    let peak' : ℕ = max peak (before t + one_buffered until t) in
    let rest = entered_together after until limit peak' (now + 1) ts us t rises.1 (omega (arith, here, one)) within
    (λ x low high. omega (arith, same x (omega (arith, low, rises.0)) high, there_one until x (omega (arith, high, within))))
    (All-tail (λ t. t < limit) t ts all) in
    let first = entered_one before after until peak peak' t (ts ++ us) rises.1 (λ x low. refl) refl in
    let ext = greatest_ext (λ x. before x + suc (length ts) * one_buffered until x + entered until x us)
    (λ x. after x + length ts * one_buffered until x + entered until x us) us (λ x. omega arith) in
    omega (arith, rest, first, ext, here, one)

-- A piece of a row: its first byte, and the bytes that enter together with it

-- After a piece of bytes, the most so far is the number at the entry of its last byte, or an earlier number.
pub piece_peak : (before after after' : ℕ → ℕ) (until limit peak peak' peak'' now t : ℕ) (ts us : List ℕ) → Rises t (ts ++ us) → limit ≤ until → t < limit →
    ((x : ℕ) → t ≤ x → after x ≡ before x + one_buffered until x) → peak' ≡ max peak (before t + one_buffered until t) →
    ((x : ℕ) → x < limit → after x ≡ now) → All (λ s. s < limit) ts →
    ((x : ℕ) → after' x ≡ after x + length ts * one_buffered until x) → peak'' ≡ max peak' (now + length ts) →
    max peak'' (greatest_at (λ x. after' x + entered until x us) us) ≡ max peak (greatest_at (λ x. before x + entered until x (t ∷ ts ++ us)) (t ∷ ts ++ us))
piece_peak before after after' until limit peak peak' peak'' now t ts us rises within early there most same all more most' =
    let here : now ≤ peak' = omega (arith, there t (omega arith), most, same t early) in
    let together = entered_together after until limit peak' now ts us t rises here within (λ x low high. same x high) all in
    let ext = greatest_ext (λ x. after' x + entered until x us) (λ x. after x + length ts * one_buffered until x + entered until x us) us
    (λ x. omega (arith, more x)) in
    let one = entered_one before after until peak peak' t (ts ++ us) rises there most in
    omega (arith, together, ext, one, most')

pub piece_there : (before after after' : ℕ → ℕ) (until t x : ℕ) (ts us : List ℕ) → t ≤ x → All (λ s. s ≤ x) ts →
    ((x : ℕ) → t ≤ x → after x ≡ before x + one_buffered until x) → ((x : ℕ) → after' x ≡ after x + length ts * one_buffered until x) →
    after' x + entered until x us ≡ before x + entered until x (t ∷ ts ++ us)
piece_there before after after' until t x ts us le all there more =
    omega (arith, there x le, more x, one_entered until x t (ts ++ us) le, entered-append until x ts us, all_entered until x ts all)

pub row_of_none : (row : Row) → row.bytes ≤ 0 → times_of row ≡ []
unfolding times_in_row
row_of_none row none = let e : row.bytes ≡ 0 = omega (arith, none) in rw e refl
