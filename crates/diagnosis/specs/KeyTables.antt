-- The tables of a description that have keys: the part of each, and its number in its array, from 0; 0 for the document and its network.
use Rattle.std.specs.Prelude.{ℕ, List, [], ◌++◌, Option, codes, decimal}
use Rattle.description_keys.specs.declared.key_row.KeyPart.{KeyPart}
use Rattle.description_keys.specs.declared.key_row.KeyPart.TheVariants.{Document, Network, NetworkStream, Program, Stream, Event, Table}
use Rattle.diagnosis.specs.KeyPlaces.{table_row, top_row}

-- the head before its keys; the document has none
unfoldable pub head_of : KeyPart → List ℕ
head_of Document = []
head_of Network = codes "[network]"
head_of Program = codes "[[program]]"
head_of Stream = codes "[[stream]]"
head_of Event = codes "[[event]]"
head_of Table = codes "[[table]]"
head_of NetworkStream = codes "[[network.stream]]"

-- the line of a key of it
unfoldable pub row_of : KeyPart → ℕ → List ℕ → List (List ℕ) → Option (ℕ × List ℕ)
row_of Document item key lines = top_row key lines
row_of part item key lines = table_row (head_of part) item key lines

-- its head, and for an element of an array its number
abbrev pub head_words : List ℕ → List ℕ
head_words head = head ++ codes " "

abbrev pub item_words : List ℕ → ℕ → List ℕ
item_words head item = head ++ codes " " ++ decimal item ++ codes " "

unfoldable pub table_words : KeyPart → ℕ → List ℕ
table_words Document item = []
table_words Network item = head_words (head_of Network)
table_words part item = item_words (head_of part) item
