-- Units that are merged, and the units that remain in their streams
use Rattle.std.proofs.Common.{◌≡◌, ◌<◌, ◌==◌, ℕ, ◌+◌, ◌++◌, drop, Option, Some, None, List, [], ◌∷◌, All, length, map, slice_get, slice_set, slice_index_or}
use Rattle.std.proofs.Common.{get_or, sum_by, zero, suc, sym, ap, ◌∙◌, inl, inr, arith}
use Rattle.std.specs.List.{filter}
use Rattle.std.specs.Option.{option_to_list}
use Rattle.std.specs.Prelude.{IfSome, IfNone, option_map}
use Rattle.std.proofs.lemmas.Option.{slice_get_within, slice_get-map, slice_get-get_or, get_or_from_slice_get}
use Rattle.std.proofs.lemmas.List.Sums.{sum_by-set}
use Rattle.std.proofs.lemmas.Bool.{cases_Bool, cases_eq, eqb-true, eqb-false}
use Rattle.std.proofs.lemmas.List.{append_assoc, append-nil, length-map, length-set, map-append, map-set}
use Rattle.std.proofs.lemmas.Simd.{map-map}
use Rattle.std.proofs.lemmas.List.Elements.{All-nil, All-cons, All-append, filter-append}
use Rattle.pes_packet.specs.AccessUnits.{AccessUnit}
use Rattle.pes_packet.specs.Units.{units_of}
use Rattle.es_moments.specs.Merging.{AreLeft, AreMerged, AreTaken, TakesNext, due, head_dts}

units_more : (j : ℕ) (units : List (ℕ × AccessUnit)) (e : ℕ × AccessUnit) → units_of j (units ++ e ∷ []) ≡ units_of j units ++ units_of j (e ∷ [])
units_more j units e = ap (map (λ u. u.1)) (filter-append (λ u. u.0 == j) units (e ∷ []))
    ∙ map-append (λ u. u.1) (filter (λ u. u.0 == j) units) (filter (λ u. u.0 == j) (e ∷ []))

own_only : (k : ℕ) (u : AccessUnit) → units_of k ((k, u) ∷ []) ≡ u ∷ []
own_only k u = elim (cases_Bool (k == k)) [ inl y ↦ rw y (λ i. u ∷ []) | inr n ↦ absurd (eqb-false k k n (λ i. k)) ]

other_none : (j k : ℕ) (u : AccessUnit) → (j ≡ k → ⊥) → units_of j ((k, u) ∷ []) ≡ []
other_none j k u apart = elim (cases_Bool (k == j)) [ inl y ↦ absurd (apart (sym (eqb-true k j y))) | inr n ↦ rw n (λ i. []) ]

units_same : (k : ℕ) (units : List (ℕ × AccessUnit)) (u : AccessUnit) → units_of k (units ++ (k, u) ∷ []) ≡ units_of k units ++ u ∷ []
units_same k units u = units_more k units (k, u) ∙ ap (λ us. units_of k units ++ us) (own_only k u)

units_other : (j k : ℕ) (units : List (ℕ × AccessUnit)) (u : AccessUnit) → (j ≡ k → ⊥) → units_of j (units ++ (k, u) ∷ []) ≡ units_of j units
units_other j k units u apart = units_more j units (k, u) ∙ ap (λ us. units_of j units ++ us) (other_none j k u apart) ∙ append-nil (units_of j units)

-- One more unit is merged

get_set : {X : Type 0} (xs : List X) (k : ℕ) (x y : X) → slice_get xs k ≡ Some x → slice_get (slice_set xs k y) k ≡ Some y
get_set [] k x y is = absurd cc
get_set (z ∷ xs) zero x y is = λ i. Some y
get_set (z ∷ xs) (suc k) x y is = get_set xs k x y is

get_other : {X : Type 0} (xs : List X) (j k : ℕ) (y : X) → (j ≡ k → ⊥) → slice_get (slice_set xs k y) j ≡ slice_get xs j
get_other [] j k y apart = λ i. slice_get [] j
get_other (z ∷ xs) zero zero y apart = absurd (apart (λ i. 0))
get_other (z ∷ xs) zero (suc k) y apart = λ i. Some z
get_other (z ∷ xs) (suc j) zero y apart = λ i. slice_get xs j
get_other (z ∷ xs) (suc j) (suc k) y apart = get_other xs j k y (λ e. apart (ap suc e))

some_same : {X : Type 0} (x y : X) → Some x ≡ Some y → x ≡ y
some_same x y e = cc

-- In the stream of the unit, the merged units and the remaining units are all units.
own_left : (streams left : List (List AccessUnit)) (units : List (ℕ × AccessUnit)) (k : ℕ) (u : AccessUnit) (rest us : List AccessUnit) →
    AreLeft streams left units → slice_get left k ≡ Some (u ∷ rest) → slice_get streams k ≡ Some us → units_of k (units ++ (k, u) ∷ []) ++ rest ≡ us
own_left streams left units k u rest us are at is =
    let old = are.each k us is in
    let e : u ∷ rest ≡ old.0 = some_same (u ∷ rest) old.0 (sym at ∙ old.1) in
    ap (λ l. l ++ rest) (units_same k units u) ∙ append_assoc (units_of k units) (u ∷ []) rest ∙ ap (λ l. units_of k units ++ l) e ∙ old.2

-- In any different stream, the merged units and the remaining units are all units.
other_left : (streams left : List (List AccessUnit)) (units : List (ℕ × AccessUnit)) (j k : ℕ) (u : AccessUnit) (rest us : List AccessUnit) →
    AreLeft streams left units → (j ≡ k → ⊥) → slice_get streams j ≡ Some us →
    (x : List AccessUnit) × (slice_get (slice_set left k rest) j ≡ Some x) × (units_of j (units ++ (k, u) ∷ []) ++ x ≡ us)
other_left streams left units j k u rest us are apart is =
    let old = are.each j us is in
    (old.0, get_other left j k rest apart ∙ old.1, ap (λ l. l ++ old.0) (units_other j k units u apart) ∙ old.2)

each_left : (streams left : List (List AccessUnit)) (units : List (ℕ × AccessUnit)) (k : ℕ) (u : AccessUnit) (rest : List AccessUnit) →
    AreLeft streams left units → slice_get left k ≡ Some (u ∷ rest) → (j : ℕ) (us : List AccessUnit) → slice_get streams j ≡ Some us →
    (x : List AccessUnit) × (slice_get (slice_set left k rest) j ≡ Some x) × (units_of j (units ++ (k, u) ∷ []) ++ x ≡ us)
each_left streams left units k u rest are at j us is = elim (cases_eq j k) [
  | inl e ↦ rw e (rest, get_set left k (u ∷ rest) rest at, own_left streams left units k u rest us are at (rw e at is))
  | inr apart ↦ other_left streams left units j k u rest us are apart is
]

-- The unit is taken after the units before it.
taken_more : (units : List (ℕ × AccessUnit)) (streams left : List (List AccessUnit)) (k : ℕ) (u : AccessUnit) (rest : List AccessUnit) →
    AreTaken streams units left → due left ≡ Some k → slice_get left k ≡ Some (u ∷ rest) → AreTaken streams (units ++ (k, u) ∷ []) (slice_set left k rest)
unfolding AreTaken
taken_more [] streams left k u rest is next has =
    let here : slice_get streams k ≡ Some (u ∷ rest) = rw is at has in
    let own : drop 1 (get_or streams k []) ≡ rest = ap (drop 1) (get_or_from_slice_get streams k (u ∷ rest) [] here) in
    (rw is at next, ap (λ l. slice_set l k rest) is ∙ ap (λ r. slice_set streams k r) (sym own))
taken_more (e ∷ es) streams left k u rest is next has =
    (is.0, taken_more es (slice_set streams e.0 (drop 1 (get_or streams e.0 []))) left k u rest is.1 next has)

pub one_more : (streams left : List (List AccessUnit)) (units : List (ℕ × AccessUnit)) (k : ℕ) (u : AccessUnit) (rest : List AccessUnit) →
    AreLeft streams left units → due left ≡ Some k → slice_get left k ≡ Some (u ∷ rest) → AreLeft streams (slice_set left k rest) (units ++ (k, u) ∷ [])
one_more streams left units k u rest are next at =
    let lt : k < length left = slice_get_within left k (u ∷ rest) at in
    record {
      each = each_left streams left units k u rest are at;
      numbered = All-append (λ e. e.0 < length streams) units ((k, u) ∷ []) are.numbered
          (All-cons (λ e. e.0 < length streams) (k, u) [] (omega (arith, lt, are.same)) (All-nil (λ e. e.0 < length streams)));
      same = length-set left k rest ∙ are.same;
      order = taken_more units streams left k u rest are.order next at;
    }

-- One unit fewer remains.
pub one_fewer : (left : List (List AccessUnit)) (k : ℕ) (u : AccessUnit) (rest : List AccessUnit) → slice_get left k ≡ Some (u ∷ rest) →
    sum_by length (slice_set left k rest) + 1 ≡ sum_by length left
one_fewer left k u rest at =
    let moved = sum_by-set length left k rest [] (slice_get_within left k (u ∷ rest) at) in
    let here : length (get_or left k []) ≡ suc (length rest) = ap length (get_or_from_slice_get left k (u ∷ rest) [] at) in
    omega (arith, moved, here)

-- The next unit of a stream

pub taken_if : {X : Type 0} (f : X → List AccessUnit) (qs : List X) (k : ℕ) (q q' : X) (r : Option AccessUnit) → k < length qs →
    f (slice_index_or qs k q) ≡ option_to_list r ++ f q' → IfSome r (λ u. TakesNext (map f qs) (map f (slice_set qs k q')) k u)
taken_if f qs k q q' None lt is = tt
taken_if f qs k q q' (Some u) lt is = record {
  rest = f q';
  first = slice_get-map f qs k ∙ ap (option_map f) (slice_get-get_or qs k q lt) ∙ ap Some is;
  left = map-set f qs k q';
}

pub none_if : {X : Type 0} (f : X → List AccessUnit) (qs : List X) (k : ℕ) (q q' : X) (r : Option AccessUnit) → k < length qs →
    f (slice_index_or qs k q) ≡ option_to_list r ++ f q' → IfNone r (f q' ≡ []) → IfNone r (slice_get (map f qs) k ≡ Some [])
none_if f qs k q q' None lt is empty = slice_get-map f qs k ∙ ap (option_map f) (slice_get-get_or qs k q lt) ∙ ap Some (is ∙ empty)
none_if f qs k q q' (Some u) lt is empty = tt

pub some_or_none : (u : AccessUnit) (rest : List AccessUnit) → ◌≡◌ {A = Option (List AccessUnit)} (Some []) (Some (u ∷ rest)) → ⊥
some_or_none u rest e = absurd cc

-- After a unit is taken from stream k, only the next DTS of stream k changes.
pub heads_more : {X : Type 0} (f : X → List AccessUnit) (qs after : List X) (heads : List (Option ℕ)) (k : ℕ) (q : X) (u : AccessUnit) (rest : List AccessUnit)
    (dts : Option ℕ) →
    heads ≡ map (λ s. head_dts (f s)) qs → slice_get (map f qs) k ≡ Some (u ∷ rest) → map f after ≡ slice_set (map f qs) k rest →
    slice_index_or after k q ≡ q → dts ≡ head_dts (f q) → slice_set heads k dts ≡ map (λ s. head_dts (f s)) after
heads_more f qs after heads k q u rest dts are at left read is =
    let found : slice_get (map f after) k ≡ Some rest = ap (λ (us : List (List AccessUnit)). slice_get us k) left ∙ get_set (map f qs) k (u ∷ rest) rest at in
    let within : k < length after = omega (arith, slice_get_within (map f after) k rest found, length-map after f) in
    let here : slice_get after k ≡ Some q = slice_get-get_or after k q within ∙ ap Some read in
    let own : f q ≡ rest = some_same (f q) rest (sym (slice_get-map f after k ∙ ap (option_map f) here) ∙ found) in
    let each : map (λ s. head_dts (f s)) after ≡ slice_set (map (λ s. head_dts (f s)) qs) k (head_dts rest) =
    sym (map-map head_dts f after) ∙ ap (map head_dts) left ∙ map-set head_dts (map f qs) k rest
    ∙ ap (λ (hs : List (Option ℕ)). slice_set hs k (head_dts rest)) (map-map head_dts f qs) in
    ap (λ (o : Option ℕ). slice_set heads k o) (is ∙ ap head_dts own) ∙ ap (λ (hs : List (Option ℕ)). slice_set hs k (head_dts rest)) are ∙ sym each

-- The start and the end of the merge

pub none_merged : (streams : List (List AccessUnit)) → AreLeft streams streams []
unfolding AreTaken
none_merged streams = record {
  each = λ k us is. (us, is, λ i. us);
  numbered = All-nil (λ e. e.0 < length streams);
  same = λ i. length streams;
  order = λ i. streams;
}

pub all_merged : (streams left : List (List AccessUnit)) (units : List (ℕ × AccessUnit)) → AreLeft streams left units → All (λ us. us ≡ []) left →
    AreMerged streams units
all_merged streams left units are none = record {
  each = λ k us is.
      let old = are.each k us is in
      let empty : old.0 ≡ [] = sym (get_or_from_slice_get left k old.0 [] old.1) ∙ none k [] (slice_get_within left k old.0 old.1) in
      sym (append-nil (units_of k units)) ∙ ap (λ r. units_of k units ++ r) (sym empty) ∙ old.2;
  numbered = are.numbered;
  order = (left, are.order);
}
