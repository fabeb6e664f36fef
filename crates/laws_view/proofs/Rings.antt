-- A ring has the last 64 rows.
use Rattle.std.proofs.Common.{◌≡◌, ◌∙◌, sym, ℕ, ◌+◌, ◌%◌, ◌==◌, ◌≢◌, ◌<◌, ◌≤◌, ◌||◌, Bool, true, false, cond, List, [], ◌∷◌, ◌++◌, length, take, drop, set}
use Rattle.std.proofs.Common.{refl, ap}
use Rattle.std.proofs.Common.{append_assoc, append-nil, arith}
use Rattle.std.specs.Prelude.{reverse}
use Rattle.std.proofs.lemmas.List.{drop-drop, drop-set-lt, drop-append-le, length-drop, length-reverse, length-set, length-take, reverse-append, take_more_set}
use Rattle.std.proofs.lemmas.Grind.{reverse_onto}
use Rattle.std.proofs.Math.Seq.{take-add, take_all, drop-append_seam}
use Rattle.std.proofs.lemmas.Bool.Decides.{nat_tests}
use Rattle.es_events.specs.declared.row.TraceRow.{TraceRow}
use Rattle.laws_view.specs.KeptRows.{ring_after}
use Rattle.es_events.specs.Rings.{rows_of}

-- 1. Lists with the last row first

reversed_more : (r : TraceRow) (xs : List TraceRow) → reverse (r ∷ xs) ≡ reverse xs ++ r ∷ []
reversed_more r xs = reverse_onto xs r []

-- The last 64 rows without the oldest row
without_oldest : (xs : List TraceRow) → 64 ≤ length xs → drop 1 (reverse (take 64 xs)) ≡ reverse (take 63 xs)
without_oldest xs many =
    let oldest = take 1 (drop 63 xs) in
    let one : length (reverse oldest) ≡ 1 =
    length-reverse oldest ∙ length-take 1 (drop 63 xs) ∙ omega (arith, many, length-drop 63 xs) in
    let parts : reverse (take 64 xs) ≡ reverse oldest ++ reverse (take 63 xs) =
    ap reverse (take-add 63 1 xs) ∙ reverse-append (take 63 xs) oldest in
    ap (drop 1) parts ∙ ap (λ (n : ℕ). drop n (reverse oldest ++ reverse (take 63 xs))) (sym one)
    ∙ drop-append_seam (reverse oldest) (reverse (take 63 xs))

-- 2. A ring, part by part

record Holds (full : Bool) (n : ℕ) (rows xs : List TraceRow) : Type 0 where
  size : length rows ≡ 64
  place : n < 64
  all : cond full (drop n rows ++ take n rows) (take n rows) ≡ reverse (take 64 xs)
  short : full ≡ false → length xs ≡ n
  long : full ≡ true → 64 ≤ length xs

below_all : (full : Bool) (n : ℕ) (rows xs : List TraceRow) (r : TraceRow) → Holds full n rows xs → n + 1 < 64 →
    cond full (drop (n + 1) (set rows n r) ++ take (n + 1) (set rows n r)) (take (n + 1) (set rows n r)) ≡ reverse (take 64 (r ∷ xs))
below_all true n rows xs r h below =
    let a = drop n rows in
    let b = take n rows in
    let one : drop 1 (a ++ b) ≡ drop (n + 1) rows ++ b =
    drop-append-le 1 a b (omega (arith, h.size, h.place, length-drop n rows)) ∙ ap (λ (ys : List TraceRow). ys ++ b) (drop-drop 1 n rows) in
    let left : drop (n + 1) (set rows n r) ≡ drop (n + 1) rows = drop-set-lt (n + 1) rows n r (omega arith) in
    let right : take (n + 1) (set rows n r) ≡ b ++ r ∷ [] = take_more_set rows n r (omega (arith, h.size, h.place)) in
    let rest : drop (n + 1) rows ++ b ≡ reverse (take 63 xs) = sym one ∙ ap (drop 1) h.all ∙ without_oldest xs (h.long refl) in
    ap (λ (ys : List TraceRow). ys ++ take (n + 1) (set rows n r)) left ∙ ap (λ (ys : List TraceRow). drop (n + 1) rows ++ ys) right
    ∙ sym (append_assoc (drop (n + 1) rows) b (r ∷ [])) ∙ ap (λ (ys : List TraceRow). ys ++ r ∷ []) rest ∙ sym (reversed_more r (take 63 xs))
below_all false n rows xs r h below =
    let right : take (n + 1) (set rows n r) ≡ take n rows ++ r ∷ [] = take_more_set rows n r (omega (arith, h.size, h.place)) in
    let few : length xs ≤ 63 = omega (arith, h.short refl, below) in
    let same : reverse (take 64 xs) ≡ reverse (take 63 xs) =
    ap reverse (take_all 64 xs (omega (arith, few))) ∙ ap reverse (sym (take_all 63 xs few)) in
    right ∙ ap (λ (ys : List TraceRow). ys ++ r ∷ []) (h.all ∙ same) ∙ sym (reversed_more r (take 63 xs))

-- After the last place is written, the rows before it are the last rows without the oldest one.
last_rest : (full : Bool) (n : ℕ) (rows xs : List TraceRow) → Holds full n rows xs → n ≡ 63 → take n rows ≡ reverse (take 63 xs)
last_rest true n rows xs h last =
    let a = drop n rows in
    let one : length a ≡ 1 = length-drop n rows ∙ omega (arith, h.size, last) in
    sym (drop-append_seam a (take n rows)) ∙ ap (λ (m : ℕ). drop m (a ++ take n rows)) one ∙ ap (drop 1) h.all ∙ without_oldest xs (h.long refl)
last_rest false n rows xs h last =
    h.all ∙ ap reverse (take_all 64 xs (omega (arith, h.short refl, last))) ∙ ap reverse (sym (take_all 63 xs (omega (arith, h.short refl, last))))

last_all : (full : Bool) (n : ℕ) (rows xs : List TraceRow) (r : TraceRow) → Holds full n rows xs → n ≡ 63 →
    drop 0 (set rows n r) ++ take 0 (set rows n r) ≡ reverse (take 64 (r ∷ xs))
last_all full n rows xs r h last =
    let whole : take (n + 1) (set rows n r) ≡ set rows n r = take_all (n + 1) (set rows n r) (omega (arith, length-set rows n r, h.size, last)) in
    append-nil (set rows n r) ∙ sym whole ∙ take_more_set rows n r (omega (arith, h.size, h.place))
    ∙ ap (λ (ys : List TraceRow). ys ++ r ∷ []) (last_rest full n rows xs h last) ∙ sym (reversed_more r (take 63 xs))

below : (full : Bool) (n : ℕ) (rows xs : List TraceRow) (r : TraceRow) → Holds full n rows xs → n + 1 < 64 → Holds full (n + 1) (set rows n r) (r ∷ xs)
below full n rows xs r h less = record {
  size = length-set rows n r ∙ h.size;
  place = less;
  all = below_all full n rows xs r h less;
  short = λ e. omega (arith, h.short e);
  long = λ e. omega (arith, h.long e);
}

many : (full : Bool) (n : ℕ) (rows xs : List TraceRow) → Holds full n rows xs → n ≡ 63 → 63 ≤ length xs
many true n rows xs h last = omega (arith, h.long refl)
many false n rows xs h last = omega (arith, h.short refl, last)

last : (full : Bool) (n : ℕ) (rows xs : List TraceRow) (r : TraceRow) → Holds full n rows xs → n ≡ 63 → Holds true 0 (set rows n r) (r ∷ xs)
last full n rows xs r h is = record {
  size = length-set rows n r ∙ h.size;
  place = omega arith;
  all = last_all full n rows xs r h is;
  short = λ e. absurd cc;
  long = λ e. omega (arith, many full n rows xs h is);
}

-- 3. One more row

is_number : (a b : ℕ) → (a == b) ≡ true → a ≡ b
is_number a b e = grind (arith, nat_tests)

is_other : (a b : ℕ) → (a == b) ≡ false → a ≢ b
is_other a b e same = absurd (grind (arith, nat_tests))

zero_next : (n : ℕ) → n ≡ 63 → (n + 1) % 64 ≡ 0
zero_next n is = rw is refl

same_next : (n : ℕ) → n + 1 < 64 → (n + 1) % 64 ≡ n + 1
same_next n less = omega (arith, less)

is_last : (n : ℕ) → ((n + 1) == 64) ≡ true → n ≡ 63
is_last n e = omega (arith, is_number (n + 1) 64 e)

is_below : (n : ℕ) → n < 64 → ((n + 1) == 64) ≡ false → n + 1 < 64
is_below n less e = omega (arith, less, is_other (n + 1) 64 e)

by_place : (full t : Bool) (n : ℕ) (rows xs : List TraceRow) (r : TraceRow) → Holds full n rows xs → ((n + 1) == 64) ≡ t →
    Holds (full || t) ((n + 1) % 64) (set rows n r) (r ∷ xs)
by_place true true n rows xs r h e = rw (zero_next n (is_last n e)) (last true n rows xs r h (is_last n e))
by_place false true n rows xs r h e = rw (zero_next n (is_last n e)) (last false n rows xs r h (is_last n e))
by_place true false n rows xs r h e = rw (same_next n (is_below n h.place e)) (below true n rows xs r h (is_below n h.place e))
by_place false false n rows xs r h e = rw (same_next n (is_below n h.place e)) (below false n rows xs r h (is_below n h.place e))

more : (full : Bool) (m n : ℕ) (rows xs : List TraceRow) (r : TraceRow) → m ≡ n → Holds full n rows xs →
    Holds (full || ((m + 1) == 64)) ((m + 1) % 64) (set rows m r) (r ∷ xs)
more full m n rows xs r is h = rw is (by_place full ((n + 1) == 64) n rows xs r h refl)

holds : (xs : List TraceRow) → Holds (ring_after xs).full (ring_after xs).next (ring_after xs).rows xs
unfolding ring_after
holds [] = record { size = refl; place = omega arith; all = refl; short = λ e. refl; long = λ e. absurd cc }
holds (r ∷ before) =
    let ring = ring_after before in
    let h = holds before in
    more ring.full (ring.next % 64) ring.next ring.rows before r (omega (arith, h.place)) h

shown : (full : Bool) (m n : ℕ) (rows xs : List TraceRow) → m ≡ n → Holds full n rows xs →
    cond full (drop m rows ++ take m rows) (take m rows) ≡ reverse (take 64 xs)
shown full m n rows xs is h = rw is h.all

pub ring_rows : (xs : List TraceRow) → rows_of (ring_after xs) ≡ reverse (take 64 xs)
ring_rows xs =
    let ring = ring_after xs in
    let h = holds xs in
    shown ring.full (ring.next % 64) ring.next ring.rows xs (omega (arith, h.place)) h
