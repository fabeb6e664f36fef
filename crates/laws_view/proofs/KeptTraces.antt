-- The rows that a trace keeps around the greatest excess of a buffer.
use Rattle.std.proofs.Common.{ltb-true, ltb-false, eqb-true}
use Rattle.std.proofs.Common.{◌≡◌, ◌≢◌, ◌∙◌, sym, ℕ, suc, ◌+◌, ◌-◌, ◌==◌, ◌&&◌, ◌<◌, ◌≤◌, ◌⊎◌, inl, inr, nat_lt, Bool, true, false, cond, List, [], ◌∷◌, ◌++◌}
use Rattle.std.proofs.Common.{length, take, drop, refl, ap, subst, arith}
use Rattle.std.proofs.lemmas.Bool.{eqb-false}
use Rattle.std.proofs.Common.{append_assoc, length-append, length-drop}
use Rattle.std.specs.Prelude.{All, Contains, reverse}
use Rattle.std.proofs.lemmas.List.{drop-append-le, reverse-append}
use Rattle.std.proofs.Math.Seq.{take-append-add}
use Rattle.std.proofs.lemmas.List.Elements.{All-nil, All-cons, All-append, All-weaker, Contains-append_right}
use Rattle.es_events.specs.declared.row.TraceRow.{TraceRow}
use Rattle.es_events.specs.declared.ring.Ring.{Ring}
use Rattle.es_events.specs.declared.traces.Trace.{Trace}
use Rattle.es_events.specs.declared.traces.Traces.{Traces}
use Rattle.es_events.specs.Rings.{rows_of}
use Rattle.es_events.specs.Traces.{ring_of, settled, trace_after, trace_rows, traces_after}
use Rattle.laws_view.specs.KeptRows.{IsKept, IsNone, StateLaw, all_after, kept_after, ring_after}
use Rattle.laws_view.proofs.Rings.{ring_rows}

-- 1. Rows below a bound

weaker : (most : TraceRow → ℕ) (a b : ℕ) → a < b → (xs : List TraceRow) → All (λ r. most r ≤ a) xs → All (λ r. most r < b) xs
weaker most a b lt xs h = All-weaker (λ r. most r ≤ a) (λ r. most r < b) (λ r le. omega (arith, le, lt)) xs h

stricter : (most : TraceRow → ℕ) (a b : ℕ) → a < b → (xs : List TraceRow) → All (λ r. most r < a) xs → All (λ r. most r < b) xs
stricter most a b lt xs h = All-weaker (λ r. most r < a) (λ r. most r < b) (λ r le. omega (arith, le, lt)) xs h

both_true : (a b : Bool) → (a && b) ≡ true → (a ≡ true) × (b ≡ true)
both_true true true e = (refl, refl)
both_true true false e = absurd cc
both_true false b e = absurd cc

not_both : (a b : Bool) → (a && b) ≡ false → (a ≡ false) ⊎ (b ≡ false)
not_both true true e = absurd cc
not_both true false e = inr refl
not_both false b e = inl refl

-- 2. The state after rows

record Around (most : TraceRow → ℕ) (size : ℕ) (rows : List TraceRow) (t : Trace) : Type 0 where
  later : List TraceRow
  greatest : TraceRow
  before : List TraceRow
  are : rows ≡ later ++ greatest ∷ before
  over : size < most greatest
  none_more : All (λ r. most r ≤ most greatest) later
  first : All (λ r. most r < most greatest) before
  value : t.greatest ≡ most greatest
  left : t.later ≡ 32 - length later
  ring : 32 ≤ length later → t.ring ≡ ring_after (drop (length later - 32) rows)

record Fits (most : TraceRow → ℕ) (size : ℕ) (rows : List TraceRow) (t : Trace) : Type 0 where
  fits : All (λ r. most r ≤ size) rows
  value : t.greatest ≡ 0
  left : t.later ≡ 0

-- A row with a greater value than all rows before it
new_greatest : (most : TraceRow → ℕ) (size : ℕ) (rows : List TraceRow) (r : TraceRow) (ring : Ring) → size < most r → All (λ x. most x < most r) rows →
    Around most size (r ∷ rows) (record { greatest = most r; later = 32; ring = ring })
new_greatest most size rows r ring over first = record {
  later = [];
  greatest = r;
  before = rows;
  are = refl;
  over = over;
  none_more = All-nil (λ x. most x ≤ most r);
  first = first;
  value = refl;
  left = refl;
  ring = λ m. absurd (omega (arith, m));
}

less_before : (most : TraceRow → ℕ) (size : ℕ) (rows : List TraceRow) (t : Trace) (m : ℕ) → Around most size rows t → t.greatest < m →
    All (λ x. most x < m) rows
less_before most size rows t m a lt =
    let over : most a.greatest < m = subst (λ (g : ℕ). g < m) a.value lt in
    subst (λ (xs : List TraceRow). All (λ x. most x < m) xs) (sym a.are)
    (All-append (λ x. most x < m) a.later (a.greatest ∷ a.before) (weaker most (most a.greatest) m over a.later a.none_more)
    (All-cons (λ x. most x < m) a.greatest a.before over (stricter most (most a.greatest) m over a.before a.first)))

-- A row that does not have a greater value
one_later : (most : TraceRow → ℕ) (size : ℕ) (rows : List TraceRow) (r : TraceRow) (t u : Trace) (a : Around most size rows t) → most r ≤ most a.greatest →
    u.greatest ≡ t.greatest → u.later ≡ t.later - 1 →
    (32 ≤ suc (length a.later) → u.ring ≡ ring_after (drop (suc (length a.later) - 32) (r ∷ rows))) → Around most size (r ∷ rows) u
one_later most size rows r t u a fits same left ring = record {
  later = r ∷ a.later;
  greatest = a.greatest;
  before = a.before;
  are = ap (λ (xs : List TraceRow). r ∷ xs) a.are;
  over = a.over;
  none_more = All-cons (λ x. most x ≤ most a.greatest) r a.later fits a.none_more;
  first = a.first;
  value = same ∙ a.value;
  left = left ∙ omega (arith, a.left);
  ring = ring;
}

not_more : (most : TraceRow → ℕ) (size : ℕ) (rows : List TraceRow) (r : TraceRow) (t : Trace) (a : Around most size rows t) →
    (nat_lt size (most r) && nat_lt t.greatest (most r)) ≡ false → most r ≤ most a.greatest
not_more most size rows r t a e = by (not_both (nat_lt size (most r)) (nat_lt t.greatest (most r)) e)
  where
    by : (nat_lt size (most r) ≡ false) ⊎ (nat_lt t.greatest (most r) ≡ false) → most r ≤ most a.greatest
    by (inl h) = omega (arith, ltb-false size (most r) h, a.over)
    by (inr h) = omega (arith, ltb-false t.greatest (most r) h, a.value)

still_ring : (most : TraceRow → ℕ) (size : ℕ) (rows : List TraceRow) (r : TraceRow) (t : Trace) (a : Around most size rows t) →
    32 ≤ length a.later → t.ring ≡ ring_after (drop (suc (length a.later) - 32) (r ∷ rows))
still_ring most size rows r t a enough =
    let one : suc (length a.later) - 32 ≡ suc (length a.later - 32) = omega (arith, enough) in
    a.ring enough ∙ ap (λ (k : ℕ). ring_after (drop k (r ∷ rows))) (sym one)

no_later : (n : ℕ) → n ≤ 1 → (n == 1) ≡ false → n ≡ 0
no_later n few e = let other : n ≢ 1 = eqb-false n 1 e in omega (arith, few, other)

around_next : (most : TraceRow → ℕ) (size : ℕ) (rows : List TraceRow) (r : TraceRow) (t : Trace) (ring : Ring) → ring ≡ ring_after (r ∷ rows) →
    (b1 b2 b3 : Bool) → (nat_lt size (most r) && nat_lt t.greatest (most r)) ≡ b1 → nat_lt 1 t.later ≡ b2 → (t.later == 1) ≡ b3 →
    Around most size rows t →
    Around most size (r ∷ rows) (cond b1 (record { greatest = most r; later = 32; ring = t.ring })
    (cond b2 (record { greatest = t.greatest; later = t.later - 1; ring = t.ring }) (cond b3 (settled t ring) t)))
around_next most size rows r t ring is true b2 b3 e1 e2 e3 a =
    let both = both_true (nat_lt size (most r)) (nat_lt t.greatest (most r)) e1 in
    new_greatest most size rows r t.ring (ltb-true size (most r) both.0) (less_before most size rows t (most r) a (ltb-true t.greatest (most r) both.1))
around_next most size rows r t ring is false true b3 e1 e2 e3 a =
    one_later most size rows r t _ a (not_more most size rows r t a e1) refl refl (λ m. absurd (omega (arith, m, a.left, ltb-true 1 t.later e2)))
around_next most size rows r t ring is false false true e1 e2 e3 a =
    let one : t.later ≡ 1 = eqb-true t.later 1 e3 in
    let none : suc (length a.later) - 32 ≡ 0 = omega (arith, a.left, one) in
    one_later most size rows r t _ a (not_more most size rows r t a e1) refl (omega (arith, one))
    (λ m. is ∙ ap (λ (k : ℕ). ring_after (drop k (r ∷ rows))) (sym none))
around_next most size rows r t ring is false false false e1 e2 e3 a =
    let few = ltb-false 1 t.later e2 in
    let none : t.later ≡ 0 = no_later t.later few e3 in
    one_later most size rows r t t a (not_more most size rows r t a e1) refl (omega (arith, none))
    (λ m. still_ring most size rows r t a (omega (arith, a.left, none)))

fits_next : (most : TraceRow → ℕ) (size : ℕ) (rows : List TraceRow) (r : TraceRow) (t : Trace) (ring : Ring) →
    (b1 b2 b3 : Bool) → (nat_lt size (most r) && nat_lt t.greatest (most r)) ≡ b1 → nat_lt 1 t.later ≡ b2 → (t.later == 1) ≡ b3 →
    Fits most size rows t →
    (λ (u : Trace). Around most size (r ∷ rows) u ⊎ Fits most size (r ∷ rows) u) (cond b1 (record { greatest = most r; later = 32; ring = t.ring })
    (cond b2 (record { greatest = t.greatest; later = t.later - 1; ring = t.ring }) (cond b3 (settled t ring) t)))
fits_next most size rows r t ring true b2 b3 e1 e2 e3 f =
    let both = both_true (nat_lt size (most r)) (nat_lt t.greatest (most r)) e1 in
    inl (new_greatest most size rows r t.ring (ltb-true size (most r) both.0) (weaker most size (most r) (ltb-true size (most r) both.0) rows f.fits))
fits_next most size rows r t ring false true b3 e1 e2 e3 f = absurd (omega (arith, ltb-true 1 t.later e2, f.left))
fits_next most size rows r t ring false false true e1 e2 e3 f = absurd (omega (arith, eqb-true t.later 1 e3, f.left))
fits_next most size rows r t ring false false false e1 e2 e3 f =
    inr (record {
      fits = All-cons (λ x. most x ≤ size) r rows (fit (not_both (nat_lt size (most r)) (nat_lt t.greatest (most r)) e1)) f.fits;
      value =
          f.value;
      left = f.left;
    })
  where
    fit : (nat_lt size (most r) ≡ false) ⊎ (nat_lt t.greatest (most r) ≡ false) → most r ≤ size
    fit (inl h) = ltb-false size (most r) h
    fit (inr h) = omega (arith, ltb-false t.greatest (most r) h, f.value)

-- 3. All rows

state : (most : TraceRow → ℕ) (size : ℕ) (rows : List TraceRow) →
    Around most size rows (kept_after most size rows) ⊎ Fits most size rows (kept_after most size rows)
unfolding kept_after
state most size [] = inr (record { fits = All-nil (λ x. most x ≤ size); value = refl; left = refl })
state most size (r ∷ before) = by (state most size before)
  where
    t : Trace
    t = kept_after most size before

    by : Around most size before t ⊎ Fits most size before t →
        Around most size (r ∷ before) (trace_after t (ring_after (r ∷ before)) size (most r)) ⊎ Fits most size (r ∷ before)
        (trace_after t (ring_after (r ∷ before)) size (most r))
    by (inl a) = inl (around_next most size before r t (ring_after (r ∷ before)) refl _ _ _ refl refl refl a)
    by (inr f) = fits_next most size before r t (ring_after (r ∷ before)) _ _ _ refl refl refl f

-- The kept rows
zero_or_more : (g : ℕ) (xs : List TraceRow) → 0 < g → cond (g == 0) [] xs ≡ xs
zero_or_more g xs some = by (g == 0) refl
  where
    by : (b : Bool) → (g == 0) ≡ b → cond b [] xs ≡ xs
    by true e = absurd (omega (arith, some, eqb-true g 0 e))
    by false e = refl

kept_ring : (most : TraceRow → ℕ) (size : ℕ) (rows : List TraceRow) (t : Trace) (a : Around most size rows t) →
    ring_of t (ring_after rows) ≡ ring_after (drop (length a.later - 32) rows)
kept_ring most size rows t a = by (t.later == 0) refl
  where
    by : (b : Bool) → (t.later == 0) ≡ b → cond b t.ring (ring_after rows) ≡ ring_after (drop (length a.later - 32) rows)
    by true e = a.ring (omega (arith, a.left, eqb-true t.later 0 e))
    by false e =
        let some : t.later ≢ 0 = eqb-false t.later 0 e in
        let none : length a.later - 32 ≡ 0 = omega (arith, a.left, some) in
        ap (λ (k : ℕ). ring_after (drop k rows)) (sym none)

-- The 64 kept rows contain the greatest row and at most 32 rows after it.
among_kept : (later : List TraceRow) (greatest : TraceRow) (before rows : List TraceRow) → rows ≡ later ++ greatest ∷ before →
    Contains (reverse (take 64 (drop (length later - 32) rows))) greatest
among_kept later greatest before rows are =
    let n = length later - 32 in
    let some = drop n later in
    let first = some ++ greatest ∷ [] in
    let rest = take (64 - length first) before in
    let cut : drop n rows ≡ first ++ before =
    ap (drop n) are ∙ drop-append-le n later (greatest ∷ before) (omega arith) ∙ sym (append_assoc some (greatest ∷ []) before) in
    let few : length first ≤ 33 = omega (arith, length-append some (greatest ∷ []), length-drop n later) in
    let all : 64 ≡ length first + (64 - length first) = omega (arith, few) in
    let kept : take 64 (first ++ before) ≡ first ++ rest = ap (λ (k : ℕ). take k (first ++ before)) all ∙ take-append-add first before (64 - length first) in
    let turned : reverse (first ++ rest) ≡ reverse rest ++ greatest ∷ reverse some =
    reverse-append first rest ∙ ap (λ (ys : List TraceRow). reverse rest ++ ys) (reverse-append some (greatest ∷ [])) in
    subst (λ (ys : List TraceRow). Contains ys greatest) (sym (ap (λ (ys : List TraceRow). reverse (take 64 ys)) cut ∙ ap reverse kept ∙ turned))
    (Contains-append_right (reverse rest) (greatest ∷ reverse some) greatest (0, omega arith, refl))

pub kept_rows : (most : TraceRow → ℕ) (size : ℕ) (rows : List TraceRow) →
    IsKept most size rows (trace_rows (kept_after most size rows) (ring_after rows)) ⊎ IsNone most size rows
    (trace_rows (kept_after most size rows) (ring_after rows))
kept_rows most size rows = by (state most size rows)
  where
    t : Trace
    t = kept_after most size rows

    by : Around most size rows t ⊎ Fits most size rows t →
        IsKept most size rows (trace_rows t (ring_after rows)) ⊎ IsNone most size rows (trace_rows t (ring_after rows))
    by (inl a) =
        let is : trace_rows t (ring_after rows) ≡ reverse (take 64 (drop (length a.later - 32) rows)) =
        zero_or_more t.greatest (rows_of (ring_of t (ring_after rows))) (omega (arith, a.value, a.over))
        ∙ ap rows_of (kept_ring most size rows t a) ∙ ring_rows (drop (length a.later - 32) rows) in
        inl (record {
          later = a.later;
          greatest = a.greatest;
          before = a.before;
          are = a.are;
          over = a.over;
          none_more = a.none_more;
          first = a.first;
          is = is;
          among = subst (λ (ys : List TraceRow). Contains ys a.greatest) (sym is) (among_kept a.later a.greatest a.before rows a.are);
        })
    by (inr f) = inr (record { fits = f.fits; is = rw f.value refl })

-- Both buffers of a stream
pub both_buffers : StateLaw
unfolding all_after kept_after ring_after
both_buffers transport main [] = refl
both_buffers transport main (row ∷ before) = ap (λ (s : Traces). traces_after s row transport main) (both_buffers transport main before)
