-- The first key or table of a text that no description has: on a line of its own, a bare key before an equals sign, or a head in brackets
-- (TOML 1.0).
use Rattle.std.specs.Prelude.{ℕ, ◌+◌, ◌==◌, ◌&&◌, not, Bool, false, List, [], ◌∷◌, ◌++◌, length, Option, Some, None, codes, nat_lt, if◌then◌else◌}
use Rattle.std.specs.List.{before_first, position_or_len}
use Rattle.std.specs.Str.{bytes_eq, is_utf8}
use Rattle.description_keys.specs.Refusals.{names_of as keys_of}
use Rattle.description_keys.specs.declared.key_row.KeyPart.{KeyPart}
use Rattle.description_keys.specs.declared.key_row.KeyPart.TheVariants.{Document, Network, NetworkStream, Program, Stream, Event, Table}
use Rattle.description_values.specs.KnownKeys.{is_among}
use Rattle.word_faults.specs.Hints.{nearest}
use Rattle.diagnosis.specs.EqualKeys.{first_word}
use Rattle.diagnosis.specs.KeyPlaces.{begins, row_words, unindented}

abbrev pub document : KeyPart
document = Document

-- 1. The tables and keys of a description

abbrev pub head_names : List (List ℕ)
head_names = codes "[network]" ∷ codes "[[network.stream]]" ∷ codes "[[program]]" ∷ codes "[[stream]]" ∷ codes "[[event]]" ∷ codes "[[table]]" ∷ []

-- the keys of a part; in place of an unknown one, the heads
unfoldable pub names_of : Option KeyPart → List (List ℕ)
names_of None = head_names
names_of (Some part) = keys_of part

-- the part that a head begins
abbrev pub part_on : List ℕ → Option KeyPart
part_on word =
    if bytes_eq word (codes "[network]") then Some Network
    else (if bytes_eq word (codes "[[program]]") then Some Program
    else (if bytes_eq word (codes "[[stream]]") then Some Stream
    else (if bytes_eq word (codes "[[event]]") then Some Event
    else (if bytes_eq word (codes "[[table]]") then Some Table
    else (if bytes_eq word (codes "[[network.stream]]") then Some NetworkStream else None)))))

-- 2. The first word of a line

abbrev pub before_equals : List ℕ → Option (List ℕ)
before_equals line = if nat_lt (position_or_len (λ b. b == 61) line) (length line) then Some (before_first (λ b. b == 61) line) else None

abbrev pub key_in : Option (List ℕ) → List ℕ
key_in None = []
key_in (Some front) = first_word (unindented front)

-- a head, or a key before an equals sign; otherwise empty
abbrev pub word_on : List ℕ → List ℕ
word_on line = if begins line (codes "[") then first_word (unindented line) else key_in (before_equals line)

-- without quotation marks
abbrev pub is_bare : List ℕ → Bool
is_bare [] = false
is_bare (b ∷ bs) = not (b == 34) && not (b == 39)

abbrev pub has_unknown_key : KeyPart → List ℕ → Bool
has_unknown_key part word = is_bare word && not (is_among (keys_of part) word)

-- 3. The first line with a word that no description has, of lines numbered from n on, in a part: its number, the line, and its part,
-- or no part if its head is unknown

unfoldable pub unknown_row : KeyPart → ℕ → List (List ℕ) → Option (ℕ × (List ℕ × Option KeyPart))
unknown_row part n [] = None
unknown_row part n (l ∷ ls) =
    if begins l (codes "[") then (elim (part_on (word_on l)) [ None ↦ Some (n, (l, None)) | Some next ↦ unknown_row next (n + 1) ls ])
    else (if has_unknown_key part (word_on l) then Some (n, (l, Some part)) else unknown_row part (n + 1) ls)

-- 4. The line for an unknown word

abbrev pub kind_of : Option KeyPart → List ℕ
kind_of None = codes "unknown table "
kind_of (Some part) = codes "unknown key "

unfoldable pub meant_words : Option (List ℕ) → List ℕ
meant_words None = codes "\n"
meant_words (Some near) = codes "; did you mean " ++ (near ++ codes "?\n")

-- the word, and the nearest name that its table has; bytes that are no UTF-8 have no name
abbrev pub named_words : Option KeyPart → List ℕ → List ℕ
named_words part word = (kind_of part ++ word) ++ meant_words (nearest (names_of part) word)

abbrev pub unnamed_words : List ℕ
unnamed_words = codes "unknown key\n"

abbrev pub word_words : Option KeyPart → List ℕ → List ℕ
word_words part word = if is_utf8 word then named_words part word else unnamed_words

abbrev pub unknown_words : Option (ℕ × (List ℕ × Option KeyPart)) → List ℕ
unknown_words None = unnamed_words
unknown_words (Some row) = row_words (Some (row.0, row.1.0)) ++ word_words row.1.1 (word_on row.1.0)

abbrev pub unknown_line : List (List ℕ) → List ℕ
unknown_line lines = unknown_words (unknown_row document 1 lines)
