-- New numbers differ from the numbers before them and from each other.
use Rattle.std.proofs.Common.{◌≡◌, ℕ, ◌==◌, ◌||◌, nat_eq, Bool, true, false, List, [], ◌∷◌, ◌++◌, append_assoc, append-nil, Option, Some, None, refl, sym, ap}
use Rattle.std.proofs.Common.{subst, ◌∙◌, inl, inr, eq-eqb}
use Rattle.std.specs.Option.{option_or}
use Rattle.std.specs.List.{AllByRecursion, IsDistinct, list_any}
use Rattle.std.specs.Cmp.{nat_eq_equiv}
use Rattle.std.proofs.lemmas.Bool.{cases_Bool, or_parts, eqb-true, eqb-false, ne_eqb, false≢true}
use Rattle.std.proofs.lemmas.List.Folds.{list_any-append}
use Rattle.std.proofs.lemmas.Map.Keys.{IsDistinct-push}
use Rattle.std.proofs.lemmas.Option.{option_and_then_some}
use Rattle.stream_programs.specs.FreePids.{is_taken, least_free}
use Rattle.stream_programs.proofs.LeastFreePid.{free_is}
use Rattle.job_inputs.specs.NewNumbers.{PlacesAreApart, new_place, place_of, places_after}

-- 1. Lists

other_way : (x : ℕ) (xs : List ℕ) → is_taken x xs ≡ false → list_any (nat_eq x) xs ≡ false
unfolding is_taken
other_way x [] free = refl
other_way x (y ∷ ys) free =
    let parts = or_parts (y == x) (list_any (λ o. o == x) ys) free in
    rw (ne_eqb x y (λ same. eqb-false y x parts.0 (sym same)), other_way x ys parts.1) refl

neither : (x : ℕ) (xs ys : List ℕ) → is_taken x (xs ++ ys) ≡ false → (is_taken x xs ≡ false) × (is_taken x ys ≡ false)
unfolding is_taken
neither x xs ys free = or_parts (list_any (λ o. o == x) xs) (list_any (λ o. o == x) ys) (sym (list_any-append (λ o. o == x) xs ys) ∙ free)

both : (x : ℕ) (xs ys : List ℕ) → is_taken x xs ≡ false → is_taken x ys ≡ false → is_taken x (xs ++ ys) ≡ false
unfolding is_taken
both x xs ys one other = list_any-append (λ o. o == x) xs ys ∙ rw (one, other) refl

not_later : (n : ℕ) (ns : List ℕ) → AllByRecursion (λ y. nat_eq n y ≡ false) ns → is_taken n ns ≡ false
unfolding is_taken
not_later n [] h = refl
not_later n (m ∷ ns) h = rw (ne_eqb m n (λ same. eqb-false n m h.0 (sym same)), not_later n ns h.1) refl

or_true : (b : Bool) → (b || true) ≡ true
or_true true = refl
or_true false = refl

later : (x n : ℕ) (ns : List ℕ) → is_taken x ns ≡ true → is_taken x (n ∷ ns) ≡ true
unfolding is_taken
later x n ns h = ap (λ (b : Bool). (n == x) || b) h ∙ or_true (n == x)

-- A number in a list differs from a number that is not in it.
is_not : (x place : ℕ) (ns : List ℕ) → is_taken x ns ≡ true → is_taken place ns ≡ false → is_taken x (place ∷ []) ≡ false
unfolding is_taken
is_not x place ns in_it not_in_it = elim (cases_Bool (place == x)) [
  | inl same ↦ absurd (false≢true (sym not_in_it ∙ ap (λ (n : ℕ). is_taken n ns) (eqb-true place x same) ∙ in_it))
  | inr other ↦ rw other refl
]

-- 2. One place

free_of : (taken : List ℕ) (a b : Option ℕ) (place : ℕ) → ((p : ℕ) → a ≡ Some p → is_taken p taken ≡ false) →
    ((p : ℕ) → b ≡ Some p → is_taken p taken ≡ false) →
    option_or a b ≡ Some place → is_taken place taken ≡ false
free_of taken None b place one other is = other place is
free_of taken (Some p) b place one other is = one place is

new_is_free : (least number place : ℕ) (taken : List ℕ) → new_place least taken number ≡ Some place → is_taken place taken ≡ false
unfolding new_place
new_is_free least number place taken is =
    free_of taken (least_free number taken) (least_free least taken) place (λ p at. (free_is number taken p at).free) (λ p at. (free_is least taken p at).free)
    is

-- The numbers of an input that have no place yet
record AreLeft (own given rest : List ℕ) : Type 0 where
  apart : (x : ℕ) → is_taken x rest ≡ true → is_taken x given ≡ false
  among : (x : ℕ) → is_taken x rest ≡ true → is_taken x own ≡ true
  distinct : IsDistinct nat_eq rest

record IsPlace (before given ns : List ℕ) (place : ℕ) : Type 0 where
  free_before : is_taken place before ≡ false
  free_given : is_taken place given ≡ false
  free_rest : is_taken place ns ≡ false

-- A number that is not in a list is not in a part of the list.
not_among : (own ns : List ℕ) (place : ℕ) → ((x : ℕ) → is_taken x ns ≡ true → is_taken x own ≡ true) → is_taken place own ≡ false → is_taken place ns ≡ false
not_among own ns place among free = elim (cases_Bool (is_taken place ns)) [
  | inl held ↦ absurd (false≢true (sym free ∙ among place held))
  | inr not_held ↦ not_held
]

first_taken : (n : ℕ) (ns : List ℕ) → is_taken n (n ∷ ns) ≡ true
unfolding is_taken
first_taken n ns = rw (eq-eqb n n refl) refl

head_free : (n : ℕ) (ns : List ℕ) → IsDistinct nat_eq (n ∷ ns) → is_taken n ns ≡ false
unfolding IsDistinct
head_free n ns d = not_later n ns d.0

place_is : (least : ℕ) (before own given ns : List ℕ) (n place : ℕ) → AreLeft own given (n ∷ ns) →
    place_of least before ((before ++ own) ++ given) n ≡ Some place → IsPlace before given ns place
unfolding place_of
place_is least before own given ns n place left is = elim (cases_Bool (is_taken n before)) [
  | inl taken ↦
      let new : new_place least ((before ++ own) ++ given) n ≡ Some place = rw taken at is in
      let free = neither place (before ++ own) given (new_is_free least n place ((before ++ own) ++ given) new) in
      let front = neither place before own free.0 in
      record {
        free_before = front.0;
        free_given = free.1;
        free_rest = not_among own ns place (λ x h. left.among x (later x n ns h)) front.1;
      }
  | inr free ↦
      let own_place : Some n ≡ Some place = rw free at is in
      let same : n ≡ place = cc in
      subst (λ (p : ℕ). IsPlace before given ns p) same (record {
        free_before = free;
        free_given = left.apart n (first_taken n ns);
        free_rest = head_free n ns left.distinct;
      })
]

-- 3. All places

tail_distinct : (n : ℕ) (ns : List ℕ) → IsDistinct nat_eq (n ∷ ns) → IsDistinct nat_eq ns
unfolding IsDistinct
tail_distinct n ns d = d.1

still_left : (before own given ns : List ℕ) (n place : ℕ) → AreLeft own given (n ∷ ns) → IsPlace before given ns place → AreLeft own (given ++ place ∷ []) ns
still_left before own given ns n place left is = record {
  apart = λ x h. both x given (place ∷ []) (left.apart x (later x n ns h)) (is_not x place ns h is.free_rest);
  among = λ x h. left.among x (later x n ns h);
  distinct = tail_distinct n ns left.distinct;
}

more_apart : (before given ns : List ℕ) (place : ℕ) → IsDistinct nat_eq (before ++ given) → IsPlace before given ns place →
    IsDistinct nat_eq (before ++ (given ++ place ∷ []))
more_apart before given ns place d is =
    subst (λ (l : List ℕ). IsDistinct nat_eq l) (append_assoc before given (place ∷ []))
    (IsDistinct-push nat_eq_equiv (before ++ given) place d (other_way place (before ++ given) (both place before given is.free_before is.free_given)))

all_apart : (least : ℕ) (before own given rest places : List ℕ) → IsDistinct nat_eq (before ++ given) → AreLeft own given rest →
    places_after least before own given rest ≡ Some places →
    IsDistinct nat_eq (before ++ places)
unfolding places_after
all_apart least before own given [] places d left is = let same : given ≡ places = cc in subst (λ (l : List ℕ). IsDistinct nat_eq (before ++ l)) same d
all_apart least before own given (n ∷ ns) places d left is =
    option_and_then_some (λ (place : ℕ). places_after least before own (given ++ place ∷ []) ns) (place_of least before ((before ++ own) ++ given) n) places is
    (λ place at rest. let here = place_is least before own given ns n place left at in
    all_apart least before own (given ++ place ∷ []) ns places (more_apart before given ns place d here) (still_left before own given ns n place left here)
    rest)

none_taken : (x : ℕ) → is_taken x [] ≡ false
unfolding is_taken
none_taken x = refl

pub places_apart : PlacesAreApart
places_apart least before own places before_apart own_apart is =
    all_apart least before own [] own places (subst (λ (l : List ℕ). IsDistinct nat_eq l) (sym (append-nil before)) before_apart)
    (record { apart = λ x h. none_taken x; among = λ x h. h; distinct = own_apart }) is
