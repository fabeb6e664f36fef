-- The numbers of an input become the places that they are given, in their order.
use Rattle.std.proofs.Common.{◌≡◌, ℕ, ◌+◌, ◌==◌, nat_eq, false, List, [], ◌∷◌, ◌++◌, length, map, zip, Some, refl, sym, ap, ◌∙◌, arith, eq-eqb}
use Rattle.std.specs.List.{AllByRecursion, IsDistinct}
use Rattle.std.proofs.lemmas.Bool.{eqb-false, ne_eqb}
use Rattle.std.proofs.lemmas.List.{length-append}
use Rattle.std.proofs.lemmas.Option.{option_and_then_some}
use Rattle.job_inputs.specs.NewNumbers.{becomes, new_number, place_of, places_after, places_of}
use Rattle.job_inputs.specs.declared.new_numbers.NewNumber.{NewNumber}

becomes_head : (n place : ℕ) (rest : List NewNumber) → becomes (new_number (n, place) ∷ rest) n ≡ place
unfolding becomes
becomes_head n place rest = rw (eq-eqb n n refl) refl

becomes_tail : (n place x : ℕ) (rest : List NewNumber) → nat_eq n x ≡ false → becomes (new_number (n, place) ∷ rest) x ≡ becomes rest x
unfolding becomes
becomes_tail n place x rest other = let not : (n == x) ≡ false = ne_eqb n x (eqb-false n x other) in rw not refl

all_tail : (n place : ℕ) (rest : List NewNumber) (xs : List ℕ) → AllByRecursion (λ y. nat_eq n y ≡ false) xs →
    map (becomes (new_number (n, place) ∷ rest)) xs ≡ map (becomes rest) xs
all_tail n place rest [] apart = refl
all_tail n place rest (x ∷ xs) apart =
    ap (λ (y : ℕ). y ∷ map (becomes (new_number (n, place) ∷ rest)) xs) (becomes_tail n place x rest apart.0)
    ∙ ap (λ (ys : List ℕ). becomes rest x ∷ ys) (all_tail n place rest xs apart.1)

pub become_places : (own places : List ℕ) → IsDistinct nat_eq own → length own ≡ length places → map (becomes (map new_number (zip own places))) own ≡ places
unfolding IsDistinct
become_places [] [] apart same = refl
become_places [] (p ∷ ps) apart same = absurd cc
become_places (n ∷ ns) [] apart same = absurd cc
become_places (n ∷ ns) (p ∷ ps) apart same =
    let rest = map new_number (zip ns ps) in
    let less : length ns ≡ length ps = omega (arith, same) in
    ap (λ (y : ℕ). y ∷ map (becomes (new_number (n, p) ∷ rest)) ns) (becomes_head n p rest)
    ∙ ap (λ (ys : List ℕ). p ∷ ys) (all_tail n p rest ns apart.0 ∙ become_places ns ps apart.1 less)

-- There are as many places as numbers.
many : (least : ℕ) (before own given rest places : List ℕ) → places_after least before own given rest ≡ Some places → length places ≡ length given + length rest
unfolding places_after
many least before own given [] places is = let same : given ≡ places = cc in rw (sym same) (let none : length given ≡ length given + 0 = omega arith in none)
many least before own given (n ∷ ns) places is =
    option_and_then_some (λ (place : ℕ). places_after least before own (given ++ place ∷ []) ns) (place_of least before ((before ++ own) ++ given) n) places is
    (λ place at rest. let more = many least before own (given ++ place ∷ []) ns places rest in let one = length-append given (place ∷ []) in
    omega (arith, more, one))

pub as_many : (least : ℕ) (before own places : List ℕ) → places_of least before own ≡ Some places → length own ≡ length places
as_many least before own places is = let more = many least before own [] own places is in omega (arith, more)
