-- The line for why a description is refused.
use Rattle.std.specs.Prelude.{ℕ, ◌==◌, Bool, List, [], ◌++◌, length, Option, Some, None, codes, decimal, if◌then◌else◌}
use Rattle.description_keys.specs.KeyRows.{KeyRow, row_of as key_of}
use Rattle.description_keys.specs.declared.key_row.KeyPart.{KeyPart}
use Rattle.description_keys.specs.declared.key_row.KeyPart.TheVariants.{Network}
use Rattle.description_keys.specs.declared.key_row.KeyKind.{KeyKind}
use Rattle.description_keys.specs.declared.key_row.KeyKind.TheVariants as kind
use Rattle.description_keys.specs.declared.fault.DescFault.{DescFault}
use Rattle.description_keys.specs.declared.fault.DescFault.TheVariants as fault
use Rattle.diagnosis.specs.declared.equal_keys.EqualKeys.TheVariants.{Pids, Numbers}
use Rattle.diagnosis.specs.EqualKeys.{equal_line}
use Rattle.diagnosis.specs.KeyPlaces.{row_words}
use Rattle.diagnosis.specs.KeyTables.{row_of, table_words}
use Rattle.diagnosis.specs.KeyWords.{values_text}

-- a key and what it has to be
unfoldable pub said_words : List ℕ → KeyRow → List ℕ
said_words front row = row.name ++ front ++ values_text row ++ codes "\n"

unfoldable pub rule_words : KeyRow → List ℕ
rule_words row = said_words (codes " has to be ") row

-- a key that has no line of its own
unfoldable pub missing_words : KeyRow → List ℕ
missing_words row = said_words (codes " is missing, or not on a line of its own: it has to be ") row

-- the same if there is no text
abbrev pub absent_words : Bool → KeyRow → List ℕ
absent_words textless row = if textless then rule_words row else missing_words row

-- its line, if it is on a line of its own; its table, its name and the values that it may have
unfoldable pub row_line : Option (ℕ × List ℕ) → Bool → KeyRow → ℕ → List ℕ
row_line None textless row item = table_words row.part item ++ absent_words textless row
row_line (Some place) textless row item = row_words (Some place) ++ (table_words row.part item ++ rule_words row)

unfoldable pub key_line : List (List ℕ) → KeyRow → ℕ → List ℕ
key_line lines row item = row_line (row_of row.part item row.name lines) (length lines == 0) row item

-- the tables of an array, by the key of the array: how many it may have, and the end of the line, with the number for a transponder if that
-- is greater
abbrev pub most_words : ℕ → ℕ → List ℕ
most_words least most = if least == 0 then codes "expected at most " ++ decimal most else codes "expected " ++ (decimal least ++ (codes " to " ++ decimal most))

abbrev pub array_words : List ℕ → List ℕ → List ℕ
array_words parent name = codes " [[" ++ (parent ++ (name ++ codes "]] tables"))

abbrev pub more_words : ℕ → ℕ → List ℕ
more_words most more = if most == more then codes "\n" else codes ", with transponder = true up to " ++ (decimal more ++ codes "\n")

-- the table that has the array, with a dot; the document has no name
unfoldable pub parent_words : KeyPart → List ℕ
parent_words Network = codes "network."
parent_words part = []

abbrev pub tables_words : ℕ → ℕ → ℕ → KeyRow → List ℕ
tables_words least most more row = most_words least most ++ array_words (parent_words row.part) row.name ++ more_words most more

-- the network, an array, or another key
unfoldable pub kind_line_by : KeyKind → List (List ℕ) → KeyRow → ℕ → List ℕ
kind_line_by kind.OneTable lines row item = rule_words row
kind_line_by (kind.Tables least most more) lines row item = tables_words least most more row
kind_line_by other lines row item = key_line lines row item

unfoldable pub kind_line : List (List ℕ) → KeyRow → ℕ → List ℕ
kind_line lines row item = kind_line_by row.kind lines row item

unfoldable pub code_line : List (List ℕ) → Option KeyRow → ℕ → List ℕ
code_line lines None item = []
code_line lines (Some row) item = kind_line lines row item

-- the number of a table in its array is counted from 0
unfoldable pub fault_line : List (List ℕ) → DescFault → List ℕ
fault_line lines fault.Text = codes "the description is not valid TOML\n"
fault_line lines fault.UnknownKey = codes "unknown key\n"
fault_line lines (fault.Key code item) = code_line lines (key_of code) item
fault_line lines fault.EqualPids = equal_line lines Pids
fault_line lines fault.EqualNumbers = equal_line lines Numbers
fault_line lines (fault.EventOrder item) = codes "[[event]] " ++ decimal item ++ codes " begins before an earlier one of its program ends\n"
fault_line lines (fault.TooLong item) = codes "table " ++ decimal item ++ codes " would have a section_length over 1021\n"
