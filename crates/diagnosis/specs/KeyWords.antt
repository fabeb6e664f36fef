-- The values that a key of a description may have, in words: its range, or how it depends on other keys.
use Rattle.std.specs.Prelude.{ℕ, List, [], ◌++◌, codes, decimal}
use Rattle.description_keys.specs.KeyRows.{KeyRow}
use Rattle.description_keys.specs.declared.key_row.KeyKind.{KeyKind}
use Rattle.description_keys.specs.declared.key_row.KeyKind.TheVariants as kind

-- values without numbers of the row
unfoldable pub kind_words : KeyKind → List ℕ
kind_words kind.Pid = codes "a PID, 32 to 8190"
kind_words kind.Moment = codes "a time in quotation marks, YYYY-MM-DDThh:mm:ss, 1970-01-01T00:00:00 to 2037-12-31T23:59:59"
kind_words (kind.Flag default) = codes "true or false"
kind_words kind.LanguageIfAny = codes "three ASCII letters"
kind_words kind.Sections = codes "1 to 8 strings of hex, each a whole section of up to 4096 bytes with its check word"
kind_words kind.Owner = codes "the number of a [[program]] of this description"
kind_words kind.OneTable = codes "a table"
kind_words other = []

-- numbers of the row
abbrev pub range_words : ℕ → ℕ → List ℕ → List ℕ
range_words least most unit = decimal least ++ codes " to " ++ decimal most ++ unit

abbrev pub length_words : ℕ → List ℕ
length_words most = codes "a text of up to " ++ decimal most ++ codes " bytes"

abbrev pub loop_words : ℕ → List ℕ
loop_words most = codes "hex of whole descriptors, up to " ++ decimal most ++ codes " bytes"

unfoldable pub values_of : KeyKind → List ℕ → List ℕ
values_of (kind.Number least most) words = range_words least most words
values_of (kind.NumberOr default least most) words = range_words least most words
values_of (kind.NumberIfAny least most) words = range_words least most words
values_of (kind.TextOrEmpty most) words = length_words most
values_of (kind.Descriptors most) words = loop_words most
values_of (kind.Joint key) words = words
values_of other words = kind_words other

unfoldable pub values_text : KeyRow → List ℕ
values_text row = values_of row.kind row.words
