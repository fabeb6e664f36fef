-- Lists made from numbered elements.
use Rattle.std.specs.Prelude.{ℕ, suc, List, [], ◌∷◌, ◌++◌}

-- the parts of the elements of a list, one after another, each made from the element and its number; the first has
-- number k
abbrev pub numbered : {A B : Type 0} → (ℕ → A → List B) → ℕ → List A → List B
numbered part k [] = []
numbered part k (x ∷ xs) = part k x ++ numbered part (suc k) xs
