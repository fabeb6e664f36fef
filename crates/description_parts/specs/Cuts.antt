-- A list cut into the sections of a table, in order: each section has as many of the next elements as its room holds.
use Rattle.std.specs.Prelude.{ℕ, suc, zero, ◌+◌, ◌==◌, ◌&&◌, ◌||◌, nat_le, Bool, List, [], ◌∷◌, ◌++◌, length, sum_by, flat_map, Option, None, Some, if◌then◌else◌}

-- a section of that room, with a number of bytes before its elements, takes the next element if it is empty, or has room for it
abbrev pub takes_next : {X : Type 0} → (X → ℕ) → ℕ → ℕ → List X → X → Bool
takes_next size room used begun x = (used == 0 && length begun == 0) || nat_le (used + sum_by size (begun ++ x ∷ [])) room

-- the elements of each section; the first section has the bytes before its elements, and these elements already
abbrev pub cut : {X : Type 0} → (X → ℕ) → ℕ → ℕ → List X → List X → List (List X)
cut size room used begun [] = begun ∷ []
cut size room used begun (x ∷ xs) =
    if takes_next size room used begun x then cut size room used (begun ++ x ∷ []) xs else begun ∷ cut size room 0 (x ∷ []) xs

-- how many of the next elements the first section takes
abbrev pub taken : {X : Type 0} → (X → ℕ) → ℕ → ℕ → List X → List X → ℕ
taken size room used begun [] = 0
taken size room used begun (x ∷ xs) =
    if takes_next size room used begun x then suc (taken size room used (begun ++ x ∷ []) xs) else 0

-- the elements of all sections, in order
abbrev pub joined : {X : Type 0} → List (List X) → List X
joined parts = flat_map (λ part. part) parts

-- the places, among the elements of all sections, of a section's elements: its first one, and the place after its last one; the elements
-- are numbered from `begin` on
abbrev pub places : {X : Type 0} → ℕ → List (List X) → ℕ → Option (ℕ × ℕ)
places begin [] j = None
places begin (part ∷ parts) zero = Some (begin, begin + length part)
places begin (part ∷ parts) (suc j) = places (begin + length part) parts j
