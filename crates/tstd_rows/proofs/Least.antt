-- The fewest bytes that a byte finds in a main buffer, piece by piece
use Rattle.std.proofs.Common.{◌≡◌, ◌∙◌, sym, ℕ, suc, ◌+◌, ◌-◌, ◌*◌, ◌/◌, ◌≤◌, ◌<◌, min, max, List, [], ◌∷◌, ◌++◌, length, Option, Some, None, refl, ap, inl}
use Rattle.std.proofs.Common.{inr, arith, All}
use Rattle.std.proofs.Math.Nat.{le_trans}
use Rattle.std.proofs.lemmas.Bool.{cases_lt, le-ltb}
use Rattle.std.proofs.lemmas.List.Elements.{All-head, All-tail}
use Rattle.clock27.specs.Peak.{greatest_at}
use Rattle.arrival.specs.Rows.{times_of, times_in_row, other_bytes}
use Rattle.arrival.specs.declared.row.Row.{Row}
use Rattle.tstd_rows.specs.TransportLaws.{Rises}
use Rattle.tstd.specs.BufferedUnits.{one_buffered}
use Rattle.tstd_rows.specs.RowEntry.{entered}
use Rattle.tstd_rows.specs.Least.{lesser, least_found}
use Rattle.tstd_rows.proofs.RowEntries.{entered_one, one_entered, row_next}
use Rattle.tstd_rows.proofs.Pieces.{late_ones, none_stays, row_of_none}

-- Lists of times

-- The later times of a list that rises also rise.
pub rises_later : (from : ℕ) (ts us : List ℕ) → Rises from (ts ++ us) → Rises from us
unfolding Rises
rises_later from [] us rises = rises
rises_later from (t ∷ []) us rises = low from t us rises.0 rises.1
  where
    low : (from t : ℕ) (us : List ℕ) → from ≤ t → Rises t us → Rises from us
    low from t [] le rises = tt
    low from t (u ∷ us) le rises = (le_trans le rises.0, rises.1)
rises_later from (t ∷ s ∷ ts) us rises = rises_later from (s ∷ ts) us (le_trans rises.0 rises.1.0, rises.1.1)

-- From the last byte on, a row is the last byte alone.
pub row_last : (row : Row) → 0 < row.bytes → times_of (other_bytes row (row.bytes - 1)) ≡ (row.from + (row.bytes - 1) * row.pace) / row.parts ∷ []
unfolding times_in_row
row_last row some =
    let next = row_next row.from row.pace row.parts row.bytes (row.bytes - 1) (omega (arith, some)) in
    let none : row.bytes - (row.bytes - 1 + 1) ≡ 0 = omega (arith, some) in
    rw none at next

-- The least number found by further bytes

-- If k bytes of the unit are in the buffer already, the counting starts at k.
pub found_shift : (before after : ℕ → ℕ) (until k n from : ℕ) (least : Option ℕ) (ts : List ℕ) → Rises from ts →
    ((x : ℕ) → from ≤ x → after x ≡ before x + k * one_buffered until x) →
    least_found after until n least ts ≡ least_found before until (k + n) least ts
unfolding Rises least_found
found_shift before after until k n from least [] rises same = refl
found_shift before after until k n from least (t ∷ ts) rises same =
    let here : after t + n * one_buffered until t ≡ before t + (k + n) * one_buffered until t = omega (arith, same t rises.0) in
    let count : k + (n + 1) ≡ k + n + 1 = omega arith in
    ap (λ (f : ℕ). least_found after until (n + 1) (lesser least f) ts) here
    ∙ found_shift before after until k (n + 1) t (lesser least (before t + (k + n) * one_buffered until t)) ts rises.1 (λ x le. same x (le_trans rises.0 le))
    ∙ ap (λ (c : ℕ). least_found before until c (lesser least (before t + (k + n) * one_buffered until t)) ts) count

pub found-append : (before : ℕ → ℕ) (until n : ℕ) (least : Option ℕ) (ts us : List ℕ) →
    least_found before until n least (ts ++ us) ≡ least_found before until (n + length ts) (least_found before until n least ts) us
unfolding least_found
found-append before until n least [] us = let e : n + 0 ≡ n = omega arith in rw e refl
found-append before until n least (t ∷ ts) us =
    let e : n + 1 + length ts ≡ n + suc (length ts) = omega arith in
    rw e at (found-append before until (n + 1) (lesser least (before t + n * one_buffered until t)) ts us)

-- The first byte of a row finds the bytes before it, and the later bytes find it too.
pub found_first : (before after : ℕ → ℕ) (until t : ℕ) (least : Option ℕ) (found : ℕ) (ts : List ℕ) → Rises t ts → found ≡ before t →
    ((x : ℕ) → t ≤ x → after x ≡ before x + one_buffered until x) →
    least_found after until 0 (lesser least found) ts ≡ least_found before until 0 least (t ∷ ts)
unfolding least_found
found_first before after until t least found ts rises is there =
    let here : found ≡ before t + 0 * one_buffered until t = omega (arith, is) in
    found_shift before after until 1 0 t (lesser least found) ts rises (λ x le. omega (arith, there x le))
    ∙ ap (λ (f : ℕ). least_found before until 1 (lesser least f) ts) here

-- A number that is not less than the least so far leaves it unchanged.
no_less : (least : Option ℕ) (m n : ℕ) → n ≤ m → lesser (lesser least m) n ≡ lesser least n
unfolding lesser
no_less None m n le = let e : min m n ≡ n = omega (arith, le) in ap Some e
no_less (Some l) m n le = let e : min (min l m) n ≡ min l n = omega (arith, le) in ap Some e

-- Bytes that arrive after the removal of their unit

gone : (until x : ℕ) → until ≤ x → one_buffered until x ≡ 0
gone until x le = rw (le-ltb x until le) refl

-- The last byte of the row finds the fewest bytes.
late_found : (after : ℕ → ℕ) (until n t u : ℕ) (least : Option ℕ) (ss : List ℕ) → until ≤ t → Rises t (ss ++ u ∷ []) →
    ((x y : ℕ) → x ≤ y → after y ≤ after x) → least_found after until n least (ss ++ u ∷ []) ≡ lesser least (after u)
unfolding Rises least_found
late_found after until n t u least [] late rises falls =
    let none = gone until u (le_trans late rises.0) in
    let here : after u + n * one_buffered until u ≡ after u = rw none (omega arith) in
    ap (lesser least) here
late_found after until n t u least (s ∷ ss) late rises falls =
    let none = gone until s (le_trans late rises.0) in
    let here : after s + n * one_buffered until s ≡ after s = rw none (omega arith) in
    let low : s ≤ u = (rises_later s ss (u ∷ []) rises.1).0 in
    ap (λ (f : ℕ). least_found after until (n + 1) (lesser least f) (ss ++ u ∷ [])) here
    ∙ late_found after until (n + 1) s u (lesser least (after s)) ss (le_trans late rises.0) rises.1 falls
    ∙ no_less least (after s) (after u) (falls s u low)

rises_one : (t u : ℕ) → Rises t (u ∷ []) → t ≤ u
unfolding Rises
rises_one t u rises = rises.0

-- It suffices to test the last byte of the row.
pub late_least : (after : ℕ → ℕ) (until t : ℕ) (least : Option ℕ) (row others : Row) (ss : List ℕ) → until ≤ t → Rises t (times_of row) →
    ((x y : ℕ) → x ≤ y → after y ≤ after x) → others ≡ other_bytes row (row.bytes - 1) → ss ++ times_of others ≡ times_of row →
    least_found after until 0 least (times_of others) ≡ least_found after until 0 least (times_of row)
unfolding least_found
late_least after until t least row others ss late rises falls is both = elim (cases_lt 0 row.bytes) [
  | inl some ↦
      let one : times_of others ≡ (row.from + (row.bytes - 1) * row.pace) / row.parts ∷ [] = rw is (row_last row some) in
      let u : ℕ = (row.from + (row.bytes - 1) * row.pace) / row.parts in
      let all : ss ++ u ∷ [] ≡ times_of row = rw one at both in
      let from : Rises t (ss ++ u ∷ []) = rw (sym all) at rises in
      let none = gone until u (le_trans late (rises_one t u (rises_later t ss (u ∷ []) from))) in
      let here : after u + 0 * one_buffered until u ≡ after u = rw none (omega arith) in
      ap (least_found after until 0 least) one ∙ ap (lesser least) here
      ∙ sym (late_found after until 0 t u least ss late from falls) ∙ ap (least_found after until 0 least) all
  | inr none ↦
      let few : others.bytes ≡ row.bytes - (row.bytes - 1) = ap (λ (r : Row). r.bytes) is in
      let all : times_of others ≡ times_of row = row_of_none others (omega (arith, few, none)) ∙ sym (row_of_none row none) in
      ap (least_found after until 0 least) all
]

-- Bytes after the removal of their unit do not raise the most.
pub late_peak : (before after : ℕ → ℕ) (until peak peak' t : ℕ) (ts us : List ℕ) → until ≤ t → Rises t ts → Rises t us →
    ((x y : ℕ) → x ≤ y → after y ≤ after x) → ((x : ℕ) → t ≤ x → after x ≡ before x + one_buffered until x) →
    peak' ≡ max peak (before t + one_buffered until t) →
    max peak' (greatest_at (λ x. after x + entered until x us) us) ≡ max peak (greatest_at (λ x. before x + entered until x (t ∷ ts)) (t ∷ ts))
late_peak before after until peak peak' t ts us late rises rises' falls there most =
    let here : after t ≤ peak' = omega (arith, there t (omega arith), most) in
    let none = late_ones after until peak' t ts late rises falls here in
    let none' = late_ones after until peak' t us late rises' falls here in
    let one = entered_one before after until peak peak' t ts rises there most in
    omega (arith, none, none', one)

pub late_there : (before after : ℕ → ℕ) (until t x : ℕ) (ts us : List ℕ) → until ≤ t → t ≤ x → ((x : ℕ) → t ≤ x → after x ≡ before x + one_buffered until x) →
    after x + entered until x us ≡ before x + entered until x (t ∷ ts)
late_there before after until t x ts us late le there =
    omega (arith, there x le, one_entered until x t ts le, none_stays until x ts (omega (arith, late, le)), none_stays until x us (omega (arith, late, le)))

-- Bytes that enter while no byte leaves

pub bounded_least : (least : Option ℕ) (n : ℕ) → (m : ℕ) × (lesser least n ≡ Some m) × (m ≤ n)
unfolding lesser
bounded_least None n = (n, refl, omega arith)
bounded_least (Some l) n = (min l n, refl, omega arith)

-- While no byte leaves, no byte finds fewer than the first byte finds.
pub together_found : (after : ℕ → ℕ) (until limit now n m : ℕ) (ts us : List ℕ) → m ≤ now → ((x : ℕ) → x < limit → after x ≡ now) → All (λ s. s < limit) ts →
    least_found after until n (Some m) (ts ++ us) ≡ least_found after until (n + length ts) (Some m) us
unfolding least_found lesser
together_found after until limit now n m [] us le same all = let e : n + 0 ≡ n = omega arith in rw e refl
together_found after until limit now n m (t ∷ ts) us le same all =
    let here : after t ≡ now = same t (All-head (λ s. s < limit) t ts all) in
    let low : min m (after t + n * one_buffered until t) ≡ m = omega (arith, here, le) in
    let e : n + 1 + length ts ≡ n + suc (length ts) = omega arith in
    ap (λ (l : ℕ). least_found after until (n + 1) (Some l) (ts ++ us)) low
    ∙ rw e at (together_found after until limit now (n + 1) m ts us le same (All-tail (λ s. s < limit) t ts all))

pub piece_least : (before after after' : ℕ → ℕ) (until limit now t : ℕ) (least : Option ℕ) (found : ℕ) (ts us : List ℕ) → Rises t (ts ++ us) → t < limit →
    found ≡ before t → ((x : ℕ) → t ≤ x → after x ≡ before x + one_buffered until x) →
    ((x : ℕ) → x < limit → after x ≡ now) → All (λ s. s < limit) ts →
    ((x : ℕ) → after' x ≡ after x + length ts * one_buffered until x) →
    least_found after' until 0 (lesser least found) us ≡ least_found before until 0 least (t ∷ ts ++ us)
piece_least before after after' until limit now t least found ts us rises early is there same all more =
    let b = bounded_least least found in
    let low : b.0 ≤ now = omega (arith, b.2, is, there t (omega arith), same t early) in
    let zero_more : length ts + 0 ≡ 0 + length ts = omega arith in
    let rest = found_shift after after' until (length ts) 0 t (lesser least found) us (rises_later t ts us rises) (λ x le. more x) in
    rest
    ∙ ap (λ (c : ℕ). least_found after until c (lesser least found) us) zero_more
    ∙ ap (λ (l : Option ℕ). least_found after until (0 + length ts) l us) b.1
    ∙ sym (together_found after until limit now 0 b.0 ts us low same all)
    ∙ ap (λ (l : Option ℕ). least_found after until 0 l (ts ++ us)) (sym b.1)
    ∙ found_first before after until t least found (ts ++ us) rises is there

-- No byte remains.
pub least_end : (before : ℕ → ℕ) (until : ℕ) (least most : Option ℕ) (ts : List ℕ) → ts ≡ [] → least_found before until 0 least ts ≡ most → least ≡ most
unfolding least_found
least_end before until least most [] e is = is
least_end before until least most (t ∷ ts) e is = cc
