-- Elements one by one.
use Rattle.std.proofs.Common.{◌≡◌, ◌∙◌, ◌<◌, ℕ, ◌+◌, ◌-◌, ◌++◌, List, length, map, take, drop, get_or, sym, ap, add-one, append_assoc, arith}
use Rattle.std.specs.Prelude.{flat_map}
use Rattle.std.proofs.Math.Seq.{drop-cons}
use Rattle.std.proofs.lemmas.List.{get_or-append_right, get_or-drop, length-map, length-take-le}

-- An element that is not yet written
pub not_yet : {X : Type 0} (f : X → X) (xs ys : List X) (i : ℕ) (x : X) → i < length xs → ys ≡ map f (take i xs) ++ drop i xs → x ≡ get_or ys i x →
    x ≡ get_or xs i x
not_yet f xs ys i x below is at =
    let size : length (map f (take i xs)) ≡ i = length-map (take i xs) f ∙ length-take-le i xs (omega (arith, below)) in
    let same : i + (i - i) ≡ i = omega arith in
    at ∙ ap (λ l. get_or l i x) is ∙ get_or-append_right (map f (take i xs)) (drop i xs) i i x size (omega arith)
    ∙ get_or-drop i xs (i - i) x ∙ ap (λ n. get_or xs n x) same

-- The output of an element, and of the elements after it
pub one_more : {X Y : Type 0} (g : X → List Y) (xs : List X) (i : ℕ) (x : X) (es : List Y) → i < length xs → x ≡ get_or xs i x →
    (es ++ g x) ++ flat_map g (drop (i + 1) xs) ≡ es ++ flat_map g (drop i xs)
one_more g xs i x es below at = rw (drop-cons xs i x below, add-one i, sym at) (append_assoc es (g x) _)
