-- Numbers that are given one after another
use Rattle.std.proofs.Common.{◌≡◌, ◌≤◌, ◌<◌, ℕ, ◌+◌, List, [], ◌∷◌, ◌++◌, length, drop, get_or, append_assoc, refl, add-one, None, Some}
use Rattle.std.proofs.Math.Seq.{drop-cons}
use Rattle.std.proofs.lemmas.List.{drop_all}
use Rattle.job_inputs.specs.NewNumbers.{place_of, places_after}

pub more_taken : (front given taken given_then taken_then : List ℕ) (place : ℕ) → taken ≡ front ++ given → given_then ≡ given ++ place ∷ [] →
    taken_then ≡ taken ++ place ∷ [] → taken_then ≡ front ++ given_then
more_taken front given taken given_then taken_then place is one other = rw (other, is, one) (append_assoc front given (place ∷ []))

pub next_place : (least : ℕ) (before own given after : List ℕ) (i place : ℕ) → i < length own →
    place_of least before ((before ++ own) ++ given) (get_or own i 0) ≡ Some place →
    after ≡ given ++ place ∷ [] → places_after least before own given (drop i own) ≡ places_after least before own after (drop (i + 1) own)
unfolding places_after
next_place least before own given after i place below is made = rw (drop-cons own i 0 below, is, made, add-one i) refl

pub no_place : (least : ℕ) (before own given : List ℕ) (i : ℕ) → i < length own → place_of least before ((before ++ own) ++ given) (get_or own i 0) ≡ None →
    places_after least before own given (drop i own) ≡ None
unfolding places_after
no_place least before own given i below is = rw (drop-cons own i 0 below, is) refl

pub all_places : (least : ℕ) (before own given : List ℕ) (i : ℕ) → length own ≤ i → places_after least before own given (drop i own) ≡ Some given
unfolding places_after
all_places least before own given i over = rw (drop_all i own over) refl
