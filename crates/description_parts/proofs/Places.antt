-- One more element of a search by place
use Rattle.std.proofs.Common.{◌≡◌, ℕ, zero, suc, ◌+◌, ◌<◌, Bool, true, false, List, [], ◌∷◌, map, take, drop, length, get_or, slice_get, None, Some, refl, sym}
use Rattle.std.proofs.Common.{◌∙◌, arith, add-one, if◌then◌else◌}
use Rattle.std.proofs.lemmas.List.{drop_more, take_more, map-append}
use Rattle.std.specs.List.{list_any}
use Rattle.toml.specs.View.{view}
use Rattle.toml.specs.declared.value.Value.{Value}
use Rattle.description_values.proofs.Elements.{list_any-map}
use Rattle.description_parts.specs.Consistency.{first_place, first_overlap, overlaps}

at_place : {X : Type 0} (p : X → Bool) (n : ℕ) (xs : List X) (i : ℕ) (x : X) → slice_get xs i ≡ Some x
    → first_place p n (drop i xs) ≡ (if p x then Some n else first_place p (n + 1) (drop (suc i) xs))
at_place p n [] i x h = absurd (cc)
at_place p n (y ∷ ys) zero x h = let same : y ≡ x = cc in rw same refl
at_place p n (y ∷ ys) (suc i) x h = at_place p n ys i x h

-- The element at a place, then the elements after it
pub first_place-step : {X : Type 0} (p : X → Bool) (xs : List X) (i : ℕ) (x : X) → slice_get xs i ≡ Some x
    → first_place p i (drop i xs) ≡ (if p x then Some i else first_place p (i + 1) (drop (i + 1) xs))
first_place-step p xs i x h = rw (add-one i) (rw (add-one i) at (at_place p i xs i x h))

-- The event at a place, then the events after it
pub first_overlap-step : (events : List Value) (i : ℕ) (d : Value) → i < length events
    → first_overlap i (map view (take i events)) (map view (drop i events))
    ≡ (if list_any (overlaps (view (get_or events i d))) (map view (take i events)) then Some i
    else first_overlap (i + 1) (map view (take (i + 1) events)) (map view (drop (i + 1) events)))
first_overlap-step events i d h = rw (drop_more events i d h, take_more events i d h, map-append view (take i events) (get_or events i d ∷ [])) refl

pub first_overlap-found : (events : List Value) (i : ℕ) (v : Value) → i < length events → v ≡ get_or events i v
    → true ≡ list_any (λ x. overlaps (view v) (view x)) (take i events)
    → first_overlap i (map view (take i events)) (map view (drop i events)) ≡ Some i
first_overlap-found events i v h is any =
    let found : list_any (overlaps (view (get_or events i v))) (map view (take i events)) ≡ true =
    rw (← is) (list_any-map (overlaps (view v)) view (take i events) ∙ sym any) in
    first_overlap-step events i v h ∙ rw found refl

pub first_overlap-next : (events : List Value) (i : ℕ) (v : Value) → i < length events → v ≡ get_or events i v
    → false ≡ list_any (λ x. overlaps (view v) (view x)) (take i events)
    → first_overlap i (map view (take i events)) (map view (drop i events)) ≡ first_overlap (i + 1) (map view (take (i + 1) events))
    (map view (drop (i + 1) events))
first_overlap-next events i v h is any =
    let none : list_any (overlaps (view (get_or events i v))) (map view (take i events)) ≡ false =
    rw (← is) (list_any-map (overlaps (view v)) view (take i events) ∙ sym any) in
    first_overlap-step events i v h ∙ rw none refl

pub first_place-found : {X : Type 0} (p : X → Bool) (xs : List X) (i : ℕ) (x : X) → slice_get xs i ≡ Some x → p x ≡ true → first_place p i (drop i xs) ≡ Some i
first_place-found p xs i x h e = first_place-step p xs i x h ∙ rw e refl

pub first_place-next : {X : Type 0} (p : X → Bool) (xs : List X) (i : ℕ) (x : X) → slice_get xs i ≡ Some x → p x ≡ false
    → first_place p i (drop i xs) ≡ first_place p (i + 1) (drop (i + 1) xs)
first_place-next p xs i x h e = first_place-step p xs i x h ∙ rw e refl

-- Each place of a list has an element.
pub none_within : {X : Type 0} (xs : List X) (i : ℕ) → i < length xs → slice_get xs i ≡ None → ⊥
none_within [] i h e = omega arith
none_within (x ∷ xs) zero h e = cc
none_within (x ∷ xs) (suc i) h e = none_within xs i (omega arith) e
