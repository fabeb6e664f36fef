-- The fewest bytes that the bytes of a part of a stream find in the main buffer are its least fullness during this part.
use Rattle.std.proofs.Common.{◌≡◌, sym, ℕ, zero, suc, ◌+◌, ◌*◌, ◌≤◌, ◌<◌, min, ◌⊎◌, List, [], ◌∷◌, ◌++◌, length, Option, Some, None, refl, ap, inl, inr, arith}
use Rattle.std.proofs.Common.{All}
use Rattle.std.proofs.Math.Nat.{le_trans}
use Rattle.std.proofs.lemmas.Bool.{cases_lt, lt-ltb, le-ltb}
use Rattle.std.proofs.lemmas.List.Elements.{All-nil, All-cons, All-append, All-head, All-tail, All-weaker}
use Rattle.clock27.specs.Departure.{last_left}
use Rattle.clock27.specs.Peak.{Climbs}
use Rattle.clock27.proofs.Departures.{last_left-append, rising}
use Rattle.clock27.proofs.Peak.{departures_climb}
use Rattle.tstd.specs.BufferedUnits.{one_buffered}
use Rattle.tstd_rows.specs.RowEntry.{entered}
use Rattle.tstd_rows.specs.Least.{lesser, least_found}
use Rattle.tstd_rows.proofs.LeavingBytes.{climbs_rises}
use Rattle.tstd_rows.proofs.Least.{bounded_least}
use Rattle.tstd_rows.proofs.Pieces.{all_entered, all_first, all_others}
use Rattle.tstd_rows.proofs.RowEntries.{none_entered, one_entered}
use Rattle.tstd_rows.specs.History.{Part, arrivals_of, last_of, left_after, payload_left, main_fullness, row_least, until_of}
use Rattle.tstd_rows.specs.History.Part.{Passes, Carries, Begins}
use Rattle.tstd_rows.specs.Lows.{LowsLaw, least_of, least_of_both}
use Rattle.tstd_rows.proofs.Views.{payload_by, prev_le}

-- Bytes of a unit

-- Later there are no more bytes of the unit.
one_falls : (until x y : ℕ) → x ≤ y → one_buffered until y ≤ one_buffered until x
one_falls until x y le = elim (cases_lt y until) [
  | inl there ↦ rw (lt-ltb y until there, lt-ltb x until (omega (arith, le, there))) (omega arith)
  | inr gone ↦ rw (le-ltb y until gone) (omega arith)
]

times_falls : (n until x y : ℕ) → x ≤ y → n * one_buffered until y ≤ n * one_buffered until x
times_falls zero until x y le = omega arith
times_falls (suc n) until x y le = omega (arith, one_falls until x y le, times_falls n until x y le)

-- Once all payload bytes have entered, the buffer only empties.
falls : (step : ℕ) (parts : List Part) (x y : ℕ) → All (λ d. d ≤ x) (payload_left step parts) → x ≤ y → main_fullness step parts y ≤ main_fullness step parts x
unfolding payload_left main_fullness
falls step [] x y all le = omega arith
falls step (Passes ts ∷ before) x y all le = falls step before x y all le
falls step (Carries ts ∷ before) x y all le =
    let ds = left_after step before ts in
    let left = payload_left step before in
    let first = falls step before x y (all_first (λ d. d ≤ x) left ds all) le in
    let now : All (λ d. d ≤ x) ds = all_others (λ d. d ≤ x) left ds all in
    let then : All (λ d. d ≤ y) ds = All-weaker (λ d. d ≤ x) (λ d. d ≤ y) (λ d low. le_trans low le) ds now in
    omega (arith, first, all_entered (until_of before) x ds now, all_entered (until_of before) y ds then, times_falls (length ds) (until_of before) x y le)
falls step (Begins due ∷ before) x y all le = falls step before x y all le

-- The numbers that bytes find

-- The least number found is at most the least so far.
found_le : (before : ℕ → ℕ) (until k m n : ℕ) (ds : List ℕ) → least_found before until k (Some m) ds ≡ Some n → n ≤ m
unfolding least_found lesser
found_le before until k m n [] is = one m n is
  where
    one : (m n : ℕ) → Some m ≡ Some n → n ≤ m
    one m n e = let same : m ≡ n = cc in omega (arith, same)
found_le before until k m n (d ∷ ds) is =
    omega (arith, found_le before until (k + 1) (min m (before d + k * one_buffered until d)) n ds is)

-- If there is a least so far, a least number is found.
found_some : (before : ℕ → ℕ) (until k m : ℕ) (ds : List ℕ) → least_found before until k (Some m) ds ≡ None → ⊥
unfolding least_found lesser
found_some before until k m [] is = cc
found_some before until k m (d ∷ ds) is = found_some before until (k + 1) (min m (before d + k * one_buffered until d)) ds is

none_found : (P : ℕ → Type 0) (before : ℕ → ℕ) (until k : ℕ) (ds : List ℕ) → least_found before until k None ds ≡ None → All P ds
unfolding least_found lesser
none_found P before until k [] is = All-nil P
none_found P before until k (d ∷ ds) is = absurd (found_some before until (k + 1) (before d + k * one_buffered until d) ds is)

-- At a moment before the last byte enters, the buffer holds no fewer bytes than the least number found.
row_never : (before : ℕ → ℕ) (until k x n : ℕ) (least : Option ℕ) (ds : List ℕ) → ((y : ℕ) → x ≤ y → before y ≤ before x) →
    (All (λ d. d ≤ x) ds → ⊥) → least_found before until k least ds ≡ Some n → n ≤ before x + k * one_buffered until x + entered until x ds
unfolding least_found
row_never before until k x n least [] falls late is = absurd (late (All-nil (λ d. d ≤ x)))
row_never before until k x n least (d ∷ ds) falls late is = elim (cases_lt x d) [
  | inl early ↦
      let b = bounded_least least (before d + k * one_buffered until d) in
      let low : n ≤ b.0 = found_le before until (k + 1) b.0 n ds (rw (sym b.1) is) in
      omega (arith, low, b.2, falls d (omega (arith, early)), times_falls k until x d (omega (arith, early)))
  | inr in_time ↦
      let rest = row_never before until (k + 1) x n (lesser least (before d + k * one_buffered until d)) ds falls
      (λ all. late (All-cons (λ d. d ≤ x) d ds in_time all)) is in
      omega (arith, rest, one_entered until x d ds in_time)
]

-- The least of two numbers

both_some : (a : Option ℕ) (m n : ℕ) → least_of_both a (Some m) ≡ Some n → n ≤ m
unfolding least_of_both
both_some None m n is = let same : m ≡ n = cc in omega (arith, same)
both_some (Some l) m n is = let same : min l m ≡ n = cc in omega (arith, same)

first_some : (m : ℕ) (b : Option ℕ) (n : ℕ) → least_of_both (Some m) b ≡ Some n → n ≤ m
unfolding least_of_both
first_some m None n is = let same : m ≡ n = cc in omega (arith, same)
first_some m (Some k) n is = let same : min m k ≡ n = cc in omega (arith, same)

both_none : (a b : Option ℕ) → least_of_both a b ≡ None → (a ≡ None) × (b ≡ None)
unfolding least_of_both
both_none None b is = (refl, is)
both_none (Some m) None is = cc
both_none (Some m) (Some n) is = cc

-- A part of a stream

cases_all : (x : ℕ) (ds : List ℕ) → All (λ d. d ≤ x) ds ⊎ (All (λ d. d ≤ x) ds → ⊥)
cases_all x [] = inl (All-nil (λ d. d ≤ x))
cases_all x (d ∷ ds) = elim (cases_lt x d) [
  | inl later ↦ inr (λ all. absurd (omega (arith, later, All-head (λ d. d ≤ x) d ds all)))
  | inr here ↦ elim (cases_all x ds) [
    | inl all ↦ inl (All-cons (λ d. d ≤ x) d ds here all)
    | inr late ↦ inr (λ all. late (All-tail (λ d. d ≤ x) d ds all))
  ]
]

-- Parts without a least number have no payload byte.
no_payload : (P : ℕ → Type 0) (step : ℕ) (recent before : List Part) → least_of step recent before ≡ None → All P (payload_left step before) →
    All P (payload_left step (recent ++ before))
unfolding least_of payload_left
no_payload P step [] before is all = all
no_payload P step (Passes ts ∷ recent) before is all = no_payload P step recent before is all
no_payload P step (Carries ts ∷ recent) before is all =
    let both = both_none (least_of step recent before) (row_least step (recent ++ before) ts) is in
    All-append P (payload_left step (recent ++ before)) (left_after step (recent ++ before) ts) (no_payload P step recent before both.0 all)
    (none_found P (main_fullness step (recent ++ before)) (until_of (recent ++ before)) 0 (left_after step (recent ++ before) ts) both.1)
no_payload P step (Begins due ∷ recent) before is all = no_payload P step recent before is all

pub never_less : (step x n : ℕ) (recent before : List Part) → least_of step recent before ≡ Some n → All (λ d. d ≤ x) (payload_left step before) →
    (All (λ d. d ≤ x) (payload_left step (recent ++ before)) → ⊥) → n ≤ main_fullness step (recent ++ before) x
unfolding least_of payload_left main_fullness
never_less step x n [] before is all late = cc
never_less step x n (Passes ts ∷ recent) before is all late = never_less step x n recent before is all late
never_less step x n (Carries ts ∷ recent) before is all late =
    let p = recent ++ before in
    let ds = left_after step p ts in
    elim (cases_all x (payload_left step p)) [
      | inl there ↦
          let late' : All (λ d. d ≤ x) ds → ⊥ = λ by. late (All-append (λ d. d ≤ x) (payload_left step p) ds there by) in
          by_row (row_least step p ts) refl late' there is
      | inr not_all ↦ by_first (least_of step recent before) refl (λ m e. never_less step x m recent before e all not_all) not_all is
    ]
  where
    by_row : (row : Option ℕ) → row_least step (recent ++ before) ts ≡ row → (All (λ d. d ≤ x) (left_after step (recent ++ before) ts) → ⊥) →
        All (λ d. d ≤ x) (payload_left step (recent ++ before)) → least_of_both (least_of step recent before) row ≡ Some n →
        n ≤ main_fullness step (recent ++ before) x + entered (until_of (recent ++ before)) x (left_after step (recent ++ before) ts)
    by_row None e late there is =
        absurd (late (none_found (λ d. d ≤ x) (main_fullness step (recent ++ before)) (until_of (recent ++ before)) 0 (left_after step (recent ++ before) ts)
        e))
    by_row (Some r) e late there is =
        let row = row_never (main_fullness step (recent ++ before)) (until_of (recent ++ before)) 0 x r None (left_after step (recent ++ before) ts)
        (λ y le. falls step (recent ++ before) x y there le) late e in
        omega (arith, row, both_some (least_of step recent before) r n is)

    by_first : (first : Option ℕ) → least_of step recent before ≡ first → ((m : ℕ) → first ≡ Some m → m ≤ main_fullness step (recent ++ before) x) →
        (All (λ d. d ≤ x) (payload_left step (recent ++ before)) → ⊥) →
        least_of_both first (row_least step (recent ++ before) ts) ≡ Some n →
        n ≤ main_fullness step (recent ++ before) x + entered (until_of (recent ++ before)) x (left_after step (recent ++ before) ts)
    by_first None e low not_all is = absurd (not_all (no_payload (λ d. d ≤ x) step recent before e all))
    by_first (Some m) e low not_all is =
        omega (arith, low m refl, first_some m (row_least step (recent ++ before) ts) n is)
never_less step x n (Begins due ∷ recent) before is all late = never_less step x n recent before is all late

-- The moment of the least fullness

lesser_case : (least : Option ℕ) (m n : ℕ) → lesser least m ≡ Some n → (least ≡ Some n) ⊎ (m ≡ n)
unfolding lesser
lesser_case None m n is = inr cc
lesser_case (Some l) m n is = let same : min l m ≡ n = cc in elim (cases_lt m l) [
  | inl less ↦ inr (omega (arith, less, same))
  | inr more ↦ let first : l ≡ n = omega (arith, more, same) in inl (ap Some first)
]

both_case : (a b : Option ℕ) (n : ℕ) → least_of_both a b ≡ Some n → (a ≡ Some n) ⊎ (b ≡ Some n)
unfolding least_of_both
both_case None b n is = inr is
both_case (Some m) None n is = inl is
both_case (Some m) (Some k) n is = let same : min m k ≡ n = cc in elim (cases_lt k m) [
  | inl less ↦ let second : k ≡ n = omega (arith, less, same) in inr (ap Some second)
  | inr more ↦ let first : m ≡ n = omega (arith, more, same) in inl (ap Some first)
]

one_at_most : (until x : ℕ) → one_buffered until x ≤ 1
one_at_most until x = elim (cases_lt x until) [
  | inl there ↦ rw (lt-ltb x until there) (omega arith)
  | inr gone ↦ rw (le-ltb x until gone) (omega arith)
]

-- A byte of the row that finds at most n bytes, with its moment
record FindsIt (P : ℕ → Type 0) (before : ℕ → ℕ) (until k from n : ℕ) (ds : List ℕ) : Type 0 where
  moment : ℕ
  later : from < moment
  one : P moment
  found : before moment + k * one_buffered until moment + entered until moment ds ≤ n + 1

row_reached : (P : ℕ → Type 0) (before : ℕ → ℕ) (until k from n : ℕ) (least : Option ℕ) (ds : List ℕ) → All P ds → Climbs (suc from) ds →
    least_found before until k least ds ≡ Some n → (least ≡ Some n) ⊎ FindsIt P before until k from n ds
unfolding least_found Climbs
row_reached P before until k from n least [] all climbs is = inl is
row_reached P before until k from n least (d ∷ ds) all climbs is =
    let f : ℕ = before d + k * one_buffered until d in
    elim (row_reached P before until (k + 1) d n (lesser least f) ds (All-tail P d ds all) climbs.1 is) [
      | inl first ↦ elim (lesser_case least f n first) [
        | inl same ↦ inl same
        | inr here ↦
            let none = none_entered until d ds (suc d) (omega arith) (climbs_rises (suc d) ds climbs.1) in
            let one = one_entered until d d ds (omega arith) in
            inr (record {
              moment = d;
              later = omega (arith, climbs.0);
              one = All-head P d ds all;
              found = omega (arith, here, none, one, one_at_most until d);
            })
      ]
      | inr rest ↦
          let early : d ≤ rest.moment = omega (arith, rest.later) in
          inr (record {
            moment = rest.moment;
            later = omega (arith, rest.later, climbs.0);
            one = rest.one;
            found = omega (arith, rest.found, one_entered until rest.moment d ds early);
          })
    ]

-- A property of all payload bytes is a property of the payload bytes of the parts before.
before_all : (P : ℕ → Type 0) (step : ℕ) (recent before : List Part) → All P (payload_left step (recent ++ before)) → All P (payload_left step before)
unfolding payload_left
before_all P step [] before all = all
before_all P step (Passes ts ∷ recent) before all = before_all P step recent before all
before_all P step (Carries ts ∷ recent) before all =
    before_all P step recent before (all_first P (payload_left step (recent ++ before)) (left_after step (recent ++ before) ts) all)
before_all P step (Begins due ∷ recent) before all = before_all P step recent before all

record Reaches (step : ℕ) (recent before : List Part) (n : ℕ) : Type 0 where
  moment : ℕ
  after : All (λ d. d ≤ moment) (payload_left step before)
  by : moment ≤ last_of step (recent ++ before)
  reached : main_fullness step (recent ++ before) moment ≤ n + 1

last_more : (step : ℕ) (parts : List Part) (ts : List ℕ) → last_of step parts ≤ last_left step 0 (arrivals_of parts ++ ts)
last_more step parts ts = rw (last_left-append step 0 (arrivals_of parts) ts) (prev_le step (last_of step parts) ts)

reaches : (step n : ℕ) (recent before : List Part) → 0 < step → least_of step recent before ≡ Some n → Reaches step recent before n
unfolding least_of payload_left main_fullness arrivals_of
reaches step n [] before pos is = cc
reaches step n (Passes ts ∷ recent) before pos is =
    let r = reaches step n recent before pos is in
    record { moment = r.moment; after = r.after; by = le_trans r.by (last_more step (recent ++ before) ts); reached = r.reached }
reaches step n (Carries ts ∷ recent) before pos is =
    let p = recent ++ before in
    let ds = left_after step p ts in
    let until = until_of p in
    let climbs = departures_climb step (last_of step p) ts pos in
    let last : ℕ = last_left step 0 (arrivals_of p ++ ts) in
    let by : All (λ d. d ≤ last) ds = rw (last_left-append step 0 (arrivals_of p) ts) (rising step (last_of step p) ts) in
    elim (both_case (least_of step recent before) (row_least step p ts) n is) [
      | inl first ↦
          let r = reaches step n recent before pos first in
          let none = none_entered until r.moment ds (suc (last_of step p)) (omega (arith, r.by)) (climbs_rises (suc (last_of step p)) ds climbs) in
          record {
            moment = r.moment;
            after = r.after;
            by = le_trans r.by (last_more step p ts);
            reached = omega (arith, r.reached, none);
          }
      | inr row ↦ elim (row_reached (λ d. d ≤ last) (main_fullness step p) until 0 (last_of step p) n None ds by climbs row) [
        | inl none ↦ cc
        | inr r ↦ record {
          moment = r.moment;
          after = All-weaker (λ d. d ≤ last_of step p) (λ d. d ≤ r.moment) (λ d le. omega (arith, le, r.later)) (payload_left step before)
              (before_all (λ d. d ≤ last_of step p) step recent before (payload_by step p));
          by = r.one;
          reached = omega (arith, r.found);
        }
      ]
    ]
reaches step n (Begins due ∷ recent) before pos is =
    let r = reaches step n recent before pos is in
    record { moment = r.moment; after = r.after; by = r.by; reached = r.reached }

pub lows_law : LowsLaw
lows_law step recent before n pos is =
    let r = reaches step n recent before pos is in
    record {
      never_less = λ x all late. never_less step x n recent before is all late;
      moment = r.moment;
      after = r.after;
      by = r.by;
      reached = r.reached;
    }
