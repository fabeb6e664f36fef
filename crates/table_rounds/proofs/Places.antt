-- The places of a round, one after another.
use Rattle.std.proofs.Common.{◌≡◌, ℕ, zero, suc, ◌+◌, ◌-◌, ◌<◌, ◌≤◌, true, false, nat_lt, List, [], ◌∷◌, length, take, map, sum_by, slice_index_or, refl, ap}
use Rattle.std.proofs.Common.{◌∙◌, arith, inl, inr, lt-ltb, le-ltb}
use Rattle.std.proofs.lemmas.Bool.{cases_lt}
use Rattle.std.proofs.lemmas.List.Sums.{sum_by-cons}
use Rattle.table_rounds.specs.Parts.{places_of}
use Rattle.table_rounds.specs.Tables.{round_places, place_in}
use Rattle.table_rounds.specs.Laws.{first_place, PlaceLaw, PlaceFoundLaw}

-- The first place of a round
pub place_first : (j : ℕ) (ls : List ℕ) → 0 < length ls → place_in j ls 0 ≡ record { section = j; part = 0 }
unfolding place_in
place_first j [] some = absurd (omega (arith, some))
place_first j (l ∷ ls) some = let e : nat_lt 0 (places_of l) ≡ true = lt-ltb 0 (places_of l) (omega arith) in rw e refl

pub place_inside : (j l : ℕ) (ls : List ℕ) (n : ℕ) → n < places_of l → place_in j (l ∷ ls) n ≡ record { section = j; part = n }
unfolding place_in
place_inside j l ls n lt = let e : nat_lt n (places_of l) ≡ true = lt-ltb n (places_of l) lt in rw e refl

pub place_after : (j l : ℕ) (ls : List ℕ) (n m : ℕ) → n ≡ places_of l + m → place_in j (l ∷ ls) n ≡ place_in (suc j) ls m
unfolding place_in
place_after j l ls n m e =
    let f : nat_lt n (places_of l) ≡ false = le-ltb n (places_of l) (omega arith) in
    let g : n - places_of l ≡ m = omega arith in
    rw (f, g) refl

-- The place with number n: the number of its section, counted from j on, and the next place
pub record NumberedPlace (j : ℕ) (ls : List ℕ) (n : ℕ) : Type 0 where
  pub i : ℕ
  pub q : ℕ
  pub place : place_in j ls n ≡ record { section = j + i; part = q }
  pub section : i < length ls
  pub part : q < slice_index_or (map places_of ls) i 0
  pub number : n ≡ sum_by places_of (take i ls) + q
  pub more : q + 1 < slice_index_or (map places_of ls) i 0 → (n + 1 < round_places ls) × (place_in j ls (n + 1) ≡ record { section = j + i; part = q + 1 })
  pub next : slice_index_or (map places_of ls) i 0 ≤ q + 1 → i + 1 < length ls →
      (n + 1 < round_places ls) × (place_in j ls (n + 1) ≡ record { section = j + i + 1; part = 0 })
  pub last : slice_index_or (map places_of ls) i 0 ≤ q + 1 → length ls ≤ i + 1 → n + 1 ≡ round_places ls

round_more : (l : ℕ) (ls : List ℕ) → round_places (l ∷ ls) ≡ places_of l + round_places ls
round_more l ls = sum_by-cons places_of l ls

some_round : (ls : List ℕ) → 0 < length ls → 0 < round_places ls
some_round [] some = absurd (omega (arith, some))
some_round (l ∷ ls) some = omega (arith, round_more l ls)

here : (j l : ℕ) (ls : List ℕ) (n : ℕ) → n < places_of l → NumberedPlace j (l ∷ ls) n
here j l ls n lt = record {
  i = 0;
  q = n;
  place = place_inside j l ls n lt ∙ ap (λ (k : ℕ). record { section = k; part = n }) first;
  section = omega arith;
  part = lt;
  number = none_before;
  more = λ m. (omega (arith, m, round_more l ls), place_inside j l ls (n + 1) m ∙ ap (λ (k : ℕ). record { section = k; part = n + 1 }) first);
  next = λ m some. let further : 0 < length ls = omega (arith, some) in (
    omega (arith, m, some_round ls further, round_more l ls),
    place_after j l ls (n + 1) 0 (omega (arith, m)) ∙ place_first (suc j) ls further ∙ ap (λ (k : ℕ). record { section = k; part = 0 }) second,
  );
  last = λ m none. ends ls m none;
}
  where
    none_before : n ≡ sum_by places_of (take 0 (l ∷ ls)) + n
    none_before = let z : sum_by places_of (take 0 (l ∷ ls)) ≡ 0 = refl in omega (arith, z)

    first : j ≡ j + 0
    first = omega arith

    second : suc j ≡ j + 0 + 1
    second = omega arith

    ends : (ks : List ℕ) → places_of l ≤ n + 1 → length (l ∷ ks) ≤ 0 + 1 → n + 1 ≡ round_places (l ∷ ks)
    ends [] m none = let z : round_places (l ∷ []) ≡ places_of l + 0 = round_more l [] in omega (arith, m, z)
    ends (k ∷ ks) m none = absurd (omega (arith, none))

further : (j l : ℕ) (ls : List ℕ) (n m : ℕ) → n ≡ places_of l + m → NumberedPlace (suc j) ls m → NumberedPlace j (l ∷ ls) n
further j l ls n m e s = record {
  i = suc s.i;
  q = s.q;
  place = place_after j l ls n m e ∙ s.place ∙ ap (λ (k : ℕ). record { section = k; part = s.q }) same;
  section = omega (arith, s.section);
  part = s.part;
  number = omega (arith, e, s.number, before);
  more = λ x. let r =
      s.more x in (
        omega (arith, e, r.0, round_more l ls),
        place_after j l ls (n + 1) (m + 1) (omega (arith, e)) ∙ r.1
            ∙ ap (λ (k : ℕ). record { section = k; part = s.q + 1 }) same,
      );
  next = λ x some. let r = s.next x (omega (arith, some)) in (
    omega (arith, e, r.0, round_more l ls),
    place_after j l ls (n + 1) (m + 1) (omega (arith, e)) ∙ r.1
        ∙ ap (λ (k : ℕ). record { section = k; part = 0 }) (ap (λ (k : ℕ). k + 1) same),
  );
  last = λ x none. let r = s.last x (omega (arith, none)) in omega (arith, e, r, round_more l ls);
}
  where
    before : sum_by places_of (take (suc s.i) (l ∷ ls)) ≡ places_of l + sum_by places_of (take s.i ls)
    before = sum_by-cons places_of l (take s.i ls)

    same : suc j + s.i ≡ j + suc s.i
    same = omega arith

pub numbered_place : (j : ℕ) (ls : List ℕ) (n : ℕ) → n < round_places ls → NumberedPlace j ls n
numbered_place j [] n lt = absurd (omega (arith, lt))
numbered_place j (l ∷ ls) n lt = elim (cases_lt n (places_of l)) [
  | inl inside ↦ here j l ls n inside
  | inr after ↦ further j l ls n (n - places_of l) (omega (arith, after))
      (numbered_place (suc j) ls (n - places_of l) (omega (arith, lt, after, round_more l ls)))
]

-- The number of places of a section, in the list of these numbers
pub places_listed : (ls : List ℕ) (i : ℕ) → i < length ls → slice_index_or (map places_of ls) i 0 ≡ places_of (slice_index_or ls i 0)
places_listed [] i lt = absurd (omega (arith, lt))
places_listed (l ∷ ls) zero lt = refl
places_listed (l ∷ ls) (suc i) lt = places_listed ls i (omega (arith, lt))

place_from : (k : ℕ) (ls : List ℕ) (j q : ℕ) → j < length ls → q < places_of (slice_index_or ls j 0) →
    place_in k ls (first_place ls j + q) ≡ record { section = k + j; part = q }
place_from k [] j q lt part = absurd (omega (arith, lt))
place_from k (l ∷ ls) zero q lt part =
    let e : sum_by places_of (take 0 (l ∷ ls)) + q ≡ q = omega arith in
    let f : k ≡ k + 0 = omega arith in
    ap (place_in k (l ∷ ls)) e ∙ place_inside k l ls q part ∙ ap (λ (i : ℕ). record { section = i; part = q }) f
place_from k (l ∷ ls) (suc j) q lt part =
    let e : suc k + j ≡ k + suc j = omega arith in
    let f : first_place (l ∷ ls) (suc j) ≡ places_of l + first_place ls j = sum_by-cons places_of l (take j ls) in
    place_after k l ls (first_place (l ∷ ls) (suc j) + q) (first_place ls j + q) (omega (arith, f))
    ∙ place_from (suc k) ls j q (omega (arith, lt)) part ∙ ap (λ (i : ℕ). record { section = i; part = q }) e

pub place_law : PlaceLaw
place_law lengths j q lt part =
    let e : 0 + j ≡ j = omega arith in
    place_from 0 lengths j q lt part ∙ ap (λ (i : ℕ). record { section = i; part = q }) e

pub place_found : PlaceFoundLaw
place_found lengths n lt =
    let s = numbered_place 0 lengths n lt in
    let e : 0 + s.i ≡ s.i = omega arith in
    let f : place_in 0 lengths n ≡ record { section = s.i; part = s.q } = s.place ∙ ap (λ (i : ℕ). record { section = i; part = s.q }) e in
    let g : slice_index_or (map places_of lengths) s.i 0 ≡ places_of (slice_index_or lengths s.i 0) = places_listed lengths s.i s.section in
    rw f (record { section = s.section; part = omega (arith, s.part, g); number = s.number })
