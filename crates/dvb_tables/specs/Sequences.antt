-- Parts one after another.
use Rattle.std.specs.Prelude.{◌≡◌, ℕ, List, [], ◌∷◌, ◌++◌}

-- bytes are the texts of these values one after another, if Is says what the bytes of one value is
abbrev pub IsSequence : {A : Type 0} → (List ℕ → A → Type 0) → List ℕ → List A → Type 0
IsSequence Is bytes [] = bytes ≡ []
IsSequence Is bytes (x ∷ xs) = (one : List ℕ) × (rest : List ℕ) × (bytes ≡ one ++ rest) × Is one x × IsSequence Is rest xs
