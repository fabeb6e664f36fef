-- How many units each stream has, counted from the last unit to the first.
use Rattle.std.proofs.Common.{◌≡◌, ◌≢◌, ℕ, suc, ◌+◌, ◌<◌, ◌≤◌, max, ◌==◌, List, [], ◌∷◌, ◌++◌, length, map, drop, refl, sym, ap, ◌∙◌, arith, inl, inr}
use Rattle.std.specs.Prelude.{slice_set, slice_index, slice_index_or, replicate}
use Rattle.std.specs.List.{filter}
use Rattle.std.proofs.lemmas.Bool.{eq-eqb, ne_eqb, cases_eq}
use Rattle.std.proofs.lemmas.List.{drop_more, drop_all, map-append, get_or-set_same, get_or-set_other, get_or-replicate}
use Rattle.std.proofs.lemmas.List.Elements.{filter-append}
use Rattle.pes_packet.specs.AccessUnits.{AccessUnit}
use Rattle.pes_packet.specs.Units.{units_of}
use Rattle.mux_core.specs.WholeJobs.{max_stream_units}

-- A unit at the front belongs to its own stream only.
pub own_units : (j : ℕ) (entry : ℕ × AccessUnit) (rest : List (ℕ × AccessUnit)) → entry.0 ≡ j → units_of j (entry ∷ rest) ≡ entry.1 ∷ units_of j rest
own_units j entry rest e = rw (eq-eqb entry.0 j e) refl

pub other_units : (j : ℕ) (entry : ℕ × AccessUnit) (rest : List (ℕ × AccessUnit)) → entry.0 ≢ j → units_of j (entry ∷ rest) ≡ units_of j rest
other_units j entry rest ne = rw (ne_eqb entry.0 j ne) refl

-- The units of a stream in two joined lists.
pub units_append : (j : ℕ) (xs ys : List (ℕ × AccessUnit)) → units_of j (xs ++ ys) ≡ units_of j xs ++ units_of j ys
units_append j xs ys = ap (map (λ (u : ℕ × AccessUnit). u.1)) (filter-append (λ (u : ℕ × AccessUnit). u.0 == j) xs ys)
    ∙ map-append (λ (u : ℕ × AccessUnit). u.1) (filter (λ (u : ℕ × AccessUnit). u.0 == j) xs) (filter (λ (u : ℕ × AccessUnit). u.0 == j) ys)

-- The number of units that each stream has from index i on.
abbrev pub CountsFrom : List ℕ → ℕ → List (ℕ × AccessUnit) → Type 0
CountsFrom counts i units = (k : ℕ) → k < 256 → (slice_index counts k ≡ length (units_of k (drop i units))) × (slice_index counts k + i ≤ length units)

pub counts_none : (i : ℕ) (units : List (ℕ × AccessUnit)) → i ≡ length units → CountsFrom (replicate 256 0) i units
counts_none i units e k below =
    let none : drop i units ≡ [] = drop_all i units (omega (arith, e)) in
    let zero_there : slice_index (replicate 256 0) k ≡ 0 = get_or-replicate 256 k 0 0 below in
    (zero_there ∙ ap (λ (l : List (ℕ × AccessUnit)). length (units_of k l)) (sym none), omega (arith, zero_there, e))

-- Counting one more unit, towards the front.
pub count_own : (counts : List ℕ) (i j : ℕ) (units : List (ℕ × AccessUnit)) (d : ℕ × AccessUnit) → length counts ≡ 256 → (slice_index_or units j d).0 < 256 →
    i ≡ j + 1 → j < length units → CountsFrom counts i units →
    CountsFrom (slice_set counts (slice_index_or units j d).0 (slice_index counts (slice_index_or units j d).0 + 1)) j units
count_own counts i j units d size within next inside counted k below =
    let entry = slice_index_or units j d in
    let rest = drop i units in
    let parts : drop j units ≡ slice_index_or units j d ∷ drop i units =
    drop_more units j d inside ∙ ap (λ (n : ℕ). slice_index_or units j d ∷ drop n units) (sym next) in
    elim (cases_eq k (slice_index_or units j d).0) [
      | inl e ↦
          let here : slice_index (slice_set counts (slice_index_or units j d).0 (slice_index counts (slice_index_or units j d).0 + 1)) k ≡ slice_index counts
          (slice_index_or units j d).0 + 1 =
          ap (slice_index (slice_set counts (slice_index_or units j d).0 (slice_index counts (slice_index_or units j d).0 + 1))) e
          ∙ get_or-set_same counts (slice_index_or units j d).0 (slice_index counts (slice_index_or units j d).0 + 1) 0 (omega (arith, size, within)) in
          let known = counted (slice_index_or units j d).0 within in
          let more : length (units_of k (drop j units)) ≡ suc (length (units_of (slice_index_or units j d).0 (drop i units))) =
          ap (λ (l : List (ℕ × AccessUnit)). length (units_of k l)) parts ∙ ap (length {A = AccessUnit}) (own_units k entry rest (sym e))
          ∙ ap (λ (n : ℕ). suc (length (units_of n rest))) e in
          (omega (arith, here, known.0, more), omega (arith, here, known.1, next))
      | inr ne ↦
          let here : slice_index (slice_set counts (slice_index_or units j d).0 (slice_index counts (slice_index_or units j d).0 + 1)) k ≡ slice_index counts
          k =
          get_or-set_other counts (slice_index_or units j d).0 k (slice_index counts (slice_index_or units j d).0 + 1) 0 ne in
          let known = counted k below in
          let same : units_of k (drop j units) ≡ units_of k (drop i units) = ap (units_of k) parts ∙ other_units k entry rest (λ e. ne (sym e)) in
          (here ∙ known.0 ∙ ap (length {A = AccessUnit}) (sym same), omega (arith, here, known.1, next))
    ]

most_cons : (entry : ℕ × AccessUnit) (rest : List (ℕ × AccessUnit)) →
    max (max_stream_units rest) (length (units_of entry.0 rest) + 1) ≡ max_stream_units (entry ∷ rest)
unfolding max_stream_units
most_cons entry rest = omega arith

pub most_more : (counts : List ℕ) (i j : ℕ) (units : List (ℕ × AccessUnit)) (d : ℕ × AccessUnit) (most : ℕ) → length counts ≡ 256 →
    (slice_index_or units j d).0 < 256 →
    i ≡ j + 1 → j < length units → CountsFrom counts i units → most ≡ max_stream_units (drop i units) →
    max most (slice_index (slice_set counts (slice_index_or units j d).0 (slice_index counts (slice_index_or units j d).0 + 1)) (slice_index_or units j d).0) ≡
    max_stream_units (drop j units)
most_more counts i j units d most size within next inside counted is =
    let parts : drop j units ≡ slice_index_or units j d ∷ drop i units =
    drop_more units j d inside ∙ ap (λ (n : ℕ). slice_index_or units j d ∷ drop n units) (sym next) in
    let here : slice_index (slice_set counts (slice_index_or units j d).0 (slice_index counts (slice_index_or units j d).0 + 1)) (slice_index_or units j d).0 ≡
    slice_index counts (slice_index_or units j d).0 + 1 =
    get_or-set_same counts (slice_index_or units j d).0 (slice_index counts (slice_index_or units j d).0 + 1) 0 (omega (arith, size, within)) in
    let known = counted (slice_index_or units j d).0 within in
    ap (max most) here ∙ ap (λ (n : ℕ). max n (slice_index counts (slice_index_or units j d).0 + 1)) is
    ∙ ap (λ (n : ℕ). max (max_stream_units (drop i units)) (n + 1)) known.0 ∙ most_cons (slice_index_or units j d) (drop i units)
    ∙ ap max_stream_units (sym parts)

-- No unit is left to count.
pub most_none : (i : ℕ) (units : List (ℕ × AccessUnit)) → i ≡ length units → 0 ≡ max_stream_units (drop i units)
unfolding max_stream_units
most_none i units e = ap max_stream_units (sym (drop_all i units (omega (arith, e))))
