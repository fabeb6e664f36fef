-- Lines of keys whose values are equal: PIDs, or program numbers.
use Rattle.std.specs.Prelude.{ℕ, ◌+◌, ◌==◌, ◌||◌, Bool, List, [], ◌∷◌, ◌++◌, length, drop, Option, None, Some, codes, false, if◌then◌else◌}
use Rattle.std.specs.Option.{option_or}
use Rattle.std.specs.Str.{bytes_eq}
use Rattle.diagnosis.specs.declared.equal_keys.EqualKeys.{EqualKeys}
use Rattle.diagnosis.specs.declared.equal_keys.EqualKeys.TheVariants.{Pids, Numbers}
use Rattle.diagnosis.specs.KeyPlaces.{has_key, is_blank, row_words, unindented}

-- 1. The value of a key on its line

-- it ends at a space or a tab, at the end of the line, or at a comment
abbrev pub ends_value : ℕ → Bool
ends_value b = is_blank b || b == 13 || b == 35

unfoldable pub first_word : List ℕ → List ℕ
first_word [] = []
first_word (b ∷ bs) = if ends_value b then [] else b ∷ first_word bs

-- after the equals sign
abbrev pub after_equals : List ℕ → Option (List ℕ)
after_equals [] = None
after_equals (b ∷ bs) = Some (first_word (unindented bs))

abbrev pub key_value : List ℕ → List ℕ → Option (List ℕ)
key_value key line = if has_key key line then after_equals (unindented (drop (length key) (unindented line))) else None

-- 2. The lines of keys that may not be equal

unfoldable pub value_on : EqualKeys → List ℕ → Option (List ℕ)
value_on Pids line =
    option_or (option_or (option_or (key_value (codes "clock_pid") line) (key_value (codes "pmt_pid") line)) (key_value (codes "pcr_pid") line))
    (key_value (codes "pid") line)
value_on Numbers line = key_value (codes "number") line

abbrev pub is_value : List ℕ → Option (List ℕ) → Bool
is_value value None = false
is_value value (Some other) = bytes_eq value other

-- the first of these lines that has this value, of lines numbered from n on
unfoldable pub row_with : EqualKeys → List ℕ → ℕ → List (List ℕ) → Option (ℕ × List ℕ)
row_with keys value n [] = None
row_with keys value n (l ∷ ls) = if is_value value (value_on keys l) then Some (n, l) else row_with keys value (n + 1) ls

abbrev pub row_like : EqualKeys → Option (List ℕ) → ℕ → List (List ℕ) → Option (ℕ × List ℕ)
row_like keys None n lines = None
row_like keys (Some value) n lines = row_with keys value n lines

-- the first line whose value occurs again, and the next line that has it
abbrev pub paired : ℕ × List ℕ → Option (ℕ × List ℕ) → Option ((ℕ × List ℕ) × (ℕ × List ℕ)) → Option ((ℕ × List ℕ) × (ℕ × List ℕ))
paired row None later = later
paired row (Some other) later = Some (row, other)

unfoldable pub equal_rows : EqualKeys → ℕ → List (List ℕ) → Option ((ℕ × List ℕ) × (ℕ × List ℕ))
equal_rows keys n [] = None
equal_rows keys n (l ∷ ls) = paired (n, l) (row_like keys (value_on keys l) (n + 1) ls) (equal_rows keys (n + 1) ls)

-- 3. The lines for equal values

unfoldable pub equal_words : EqualKeys → List ℕ
equal_words Pids = codes "two PIDs are equal\n"
equal_words Numbers = codes "two program numbers are equal\n"

unfoldable pub both_places : Option ((ℕ × List ℕ) × (ℕ × List ℕ)) → List ℕ
both_places None = []
both_places (Some rows) = row_words (Some rows.0) ++ row_words (Some rows.1)

-- the places of both keys, if each is on a line of its own, and the sentence
abbrev pub equal_line : List (List ℕ) → EqualKeys → List ℕ
equal_line lines keys = both_places (equal_rows keys 1 lines) ++ equal_words keys
