-- Lines of TOML: a key, and its value.
use Rattle.std.specs.Prelude.{ℕ, pos, ◌==◌, Bool, true, false, if◌then◌else◌, List, [], ◌∷◌, ◌++◌, length, codes, decimal, Option, None, Some}
use Rattle.std.specs.Borrow.{Bor}
use Rattle.std.specs.List.{flat_map}
use Rattle.std.specs.Fmt.{signed_decimal}
use Rattle.hex.specs.Hex.{encode_lower}
use Rattle.toml.specs.Data.{Data, string, integer, boolean, array, Items, no_items, item, Members, member}
use Rattle.toml_writer.specs.Text.{string_text}
use Rattle.job_text.specs.Notes.{name_note, note_of}

-- a string, a number, a truth value or an array of these on one line; no other kind of value is written
abbrev mutual
  pub value_text : Data → List ℕ
  value_text (string s) = string_text s
  value_text (integer n) = signed_decimal n
  value_text (boolean b) = if b then codes "true" else codes "false"
  value_text (array ds) = codes "[" ++ items_text true ds
  value_text _ = []

  -- the elements of an array from its first one on, or after it, and its end
  pub items_text : Bool → Items → List ℕ
  items_text is_first no_items = codes "]"
  items_text is_first (item d ds) = (if is_first then [] else codes ", ") ++ (value_text d ++ items_text false ds)

-- `KEY = VALUE`, the comment beside it, and LF
unfoldable pub key_line : List ℕ → Data → List ℕ
key_line key value = key ++ (codes " = " ++ (value_text value ++ (note_of key value ++ codes "\n")))

-- the same with this comment beside the value
unfoldable pub noted_line : List ℕ → Data → List ℕ → List ℕ
noted_line key value note = key ++ (codes " = " ++ (value_text value ++ (note ++ codes "\n")))

-- bytes as pairs of hexadecimal digits, with the name in them as a comment
abbrev pub named_line : List ℕ → List ℕ → List ℕ → List ℕ
named_line key bytes name = noted_line key (string (encode_lower bytes)) (name_note name)

-- the line of a number
abbrev pub number_line : List ℕ × ℕ → List ℕ
number_line field = key_line field.0 (integer (pos field.1))

-- the line of a number at a key that the code lends
abbrev pub field_line : Bor (List ℕ) × ℕ → List ℕ
field_line field = number_line (field.0.now, field.1)

-- keys with their numbers, each on its line
abbrev pub number_lines : List (List ℕ × ℕ) → List ℕ
number_lines fields = flat_map number_line fields

-- the same in a table, before its other keys
abbrev pub with_numbers : List (List ℕ × ℕ) → Members → Members
with_numbers [] more = more
with_numbers (field ∷ fields) more = member field.0 (integer (pos field.1)) (with_numbers fields more)

-- a number with its key, if there is a number
abbrev pub number_if_any : List ℕ → Option ℕ → List (List ℕ × ℕ)
number_if_any key None = []
number_if_any key (Some n) = (key, n) ∷ []

-- a flag that is set; no line if it is not
abbrev pub set_line : List ℕ → Bool → List ℕ
set_line key false = []
set_line key true = key_line key (boolean true)

-- the same in a table, before its other keys
abbrev pub with_set : List ℕ → Bool → Members → Members
with_set key false more = more
with_set key true more = member key (boolean true) more

-- bytes as pairs of hexadecimal digits; no line if there are no bytes
unfoldable pub hex_line : List ℕ → List ℕ → List ℕ
hex_line key bytes = if length bytes == 0 then [] else key_line key (string (encode_lower bytes))

-- the same in a table, before its other keys
unfoldable pub with_hex : List ℕ → List ℕ → Members → Members
with_hex key bytes more = if length bytes == 0 then more else member key (string (encode_lower bytes)) more

-- numbers as the elements of an array
abbrev pub items_of : List ℕ → Items
items_of [] = no_items
items_of (n ∷ ns) = item (integer (pos n)) (items_of ns)

-- a number after another number
abbrev pub next_number : ℕ → List ℕ
next_number n = codes ", " ++ decimal n

-- the array of a number and the numbers after it
abbrev pub array_line : List ℕ → ℕ → List ℕ → List ℕ
array_line key n ns = (key ++ (codes " = [" ++ decimal n)) ++ (flat_map next_number ns ++ codes "]\n")

-- the array of numbers; no line if there are none
unfoldable pub list_line : List ℕ → List ℕ → List ℕ
list_line key ns = if length ns == 0 then [] else key_line key (array (items_of ns))

-- the same in a table, before its other keys
abbrev pub with_list : List ℕ → List ℕ → Members → Members
with_list key [] more = more
with_list key (n ∷ ns) more = member key (array (items_of (n ∷ ns))) more

-- bytes as strings of hexadecimal digits, the elements of an array
abbrev pub digits_of : List (List ℕ) → Items
digits_of [] = no_items
digits_of (b ∷ bs) = item (string (encode_lower b)) (digits_of bs)

-- such a string after another one
abbrev pub next_digits : List ℕ → List ℕ
next_digits b = codes ", " ++ string_text (encode_lower b)

-- the array of bytes and the elements after them
abbrev pub digits_line : List ℕ → List ℕ → List (List ℕ) → List ℕ
digits_line key b bs = (key ++ (codes " = [" ++ string_text (encode_lower b))) ++ (flat_map next_digits bs ++ codes "]\n")

-- an empty line, and the header of a table
unfoldable pub table_header : List ℕ → List ℕ
table_header key = codes "\n[" ++ (key ++ codes "]\n")

-- an empty line, and the header of an element of an array of tables
unfoldable pub header : List ℕ → List ℕ
header key = codes "\n[[" ++ (key ++ codes "]]\n")
