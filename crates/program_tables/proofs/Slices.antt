-- The rest of a slice, seen through a view
use Rattle.std.proofs.Common.{◌≡◌, ◌≤◌, ◌<◌, ℕ, ◌+◌, List, [], ◌∷◌, length, map, drop, get_or, refl, sym, add-one}
use Rattle.std.proofs.Math.Seq.{drop-cons}
use Rattle.std.proofs.lemmas.List.{drop_all}

pub more : {X Y : Type 0} (view : X → Y) (i : ℕ) (xs : List X) (x : X) → i < length xs → x ≡ get_or xs i x →
    map view (drop i xs) ≡ view x ∷ map view (drop (i + 1) xs)
more view i xs x below at = rw (drop-cons xs i x below, add-one i, sym at) refl

pub done : {X Y : Type 0} (view : X → Y) (i : ℕ) (xs : List X) → length xs ≤ i → map view (drop i xs) ≡ []
done view i xs over = rw (drop_all i xs over) refl
