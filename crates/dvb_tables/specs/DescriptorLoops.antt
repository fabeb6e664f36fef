-- Loops of descriptors (ISO/IEC 13818-1, 2.6): descriptors one after another.
use Rattle.std.specs.Prelude.{◌≡◌, ℕ, zero, suc, Bool, true, false, List, [], ◌∷◌, ◌++◌}
use Rattle.dvb_tables.specs.Descriptors.{descriptor}

-- bytes are descriptors one after another, each a tag and the bytes after its length
abbrev pub AreDescriptors : List ℕ → List (ℕ × List ℕ) → Type 0
AreDescriptors bytes [] = bytes ≡ []
AreDescriptors bytes (d ∷ ds) = (rest : List ℕ) × (bytes ≡ descriptor d.0 d.1 ++ rest) × AreDescriptors rest ds

-- whether bytes are the last n bytes of a descriptor, and whole descriptors after them
unfoldable pub ends_whole : ℕ → List ℕ → Bool
ends_whole zero [] = true
ends_whole (suc n) [] = false
ends_whole zero (tag ∷ []) = false
ends_whole zero (tag ∷ n ∷ bytes) = ends_whole n bytes
ends_whole (suc n) (b ∷ bytes) = ends_whole n bytes

-- whether bytes are whole descriptors
unfoldable pub are_whole_descriptors : List ℕ → Bool
are_whole_descriptors bytes = ends_whole 0 bytes
