-- The word that an unknown word may mean is the nearest known word.
use Rattle.std.specs.Prelude.{◌≡◌, true, false, nat_le, List, ◌∷◌, ◌++◌, Option, Some, None}
use Rattle.std.specs.List.{list_all, list_any}
use Rattle.word_faults.specs.CommandLine.{Text}
use Rattle.word_faults.specs.Hints.{edits_of, is_near, nearest}

-- a word is among `others`
pub record IsAmong (others : List Text) (word : Text) : Type 0 where
  pub before : List Text
  pub after : List Text
  pub is : others ≡ before ++ word ∷ after

-- it is known and near, and no known word is nearer
pub record IsNearest (others : List Text) (word best : Text) : Type 0 where
  pub known : IsAmong others best
  pub near : is_near word best ≡ true
  pub least : list_all (λ other. nat_le (edits_of word best) (edits_of word other)) others ≡ true

-- or no known word is near
abbrev pub IsMeant : List Text → Text → Option Text → Type 0
IsMeant others word None = list_any (is_near word) others ≡ false
IsMeant others word (Some best) = IsNearest others word best

-- for all words
abbrev pub HintsAreNearest : Type 0
HintsAreNearest = (others : List Text) (word : Text) → IsMeant others word (nearest others word)
