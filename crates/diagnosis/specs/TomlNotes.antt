-- The TOML reader's message on a text that is not valid TOML, and its place.
use Rattle.std.specs.Prelude.{ℕ, ◌+◌, ◌-◌, List, [], ◌∷◌, ◌++◌, length, Option, Some, None, codes, nat_le, if◌then◌else◌}
use Rattle.diagnosis.specs.KeyPlaces.{place_words}

-- its message, and the number of bytes before the fault
pub record TomlNoteView : Type 0 where
  pub place : ℕ
  pub message : List ℕ

-- the line with the byte at a place: its number, among lines numbered from n on, the place in it, and the line
unfoldable pub row_at : ℕ → ℕ → List (List ℕ) → Option (ℕ × (ℕ × List ℕ))
row_at place n [] = None
row_at place n (l ∷ ls) = if nat_le place (length l) then Some (n, (place, l)) else row_at (place - length l - 1) (n + 1) ls

unfoldable pub fault_place : Option (ℕ × (ℕ × List ℕ)) → List ℕ
fault_place None = codes "the description: "
fault_place (Some row) = place_words row.0 (row.1.0 + 1) row.1.1

unfoldable pub message_words : List ℕ → List ℕ
message_words message = codes "not valid TOML: " ++ message ++ codes "\n"

abbrev pub note_line : List (List ℕ) → TomlNoteView → List ℕ
note_line lines note = fault_place (row_at note.place 1 lines) ++ message_words note.message
