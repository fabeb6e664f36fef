-- The elements of an array in the view
use Rattle.std.proofs.Common.{◌≡◌, List, [], ◌∷◌, map, refl, ap, sym, Bool, ◌||◌}
use Rattle.std.specs.List.{list_any}
use Rattle.toml.specs.View.{view, items_of, items_view}
use Rattle.toml.specs.Data.{Data}
use Rattle.toml.specs.declared.value.Value.{Value}
use Rattle.description_values.specs.Values.{list_of}

pub list_of-items_of : (ds : List Data) → list_of (items_of ds) ≡ ds
list_of-items_of [] = refl
list_of-items_of (d ∷ ds) = ap (λ rest. d ∷ rest) (list_of-items_of ds)

-- The views of an array's elements are the elements of its view.
pub list_of-items_view : (vs : List Value) → map view vs ≡ list_of (items_view vs)
list_of-items_view vs = sym (list_of-items_of (map view vs))

pub list_any-map : {X Y : Type 0} (p : Y → Bool) (f : X → Y) (xs : List X) → list_any p (map f xs) ≡ list_any (λ x. p (f x)) xs
list_any-map p f [] = refl
list_any-map p f (x ∷ xs) = ap (λ b. p (f x) || b) (list_any-map p f xs)
