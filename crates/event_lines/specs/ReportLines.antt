-- A line: a word and fields, each a name and a number or a word.
use Rattle.std.specs.Prelude.{ℕ, ◌/◌, ◌%◌, ◌==◌, ◌||◌, nat_lt, Bool, if◌then◌else◌, List, [], ◌∷◌, ◌++◌, codes, decimal, flat_map, Option, Some, None}
use Rattle.std.specs.Char.{encode_utf8}
use Rattle.std.specs.Str.{chars}
use Rattle.event_lines.specs.FieldViews.{FieldView, ValueView, IsNumber, IsBelow, IsWord, IsSeconds}

abbrev pub number_field : List ℕ → ℕ → FieldView
number_field name n = record { name = name; value = IsNumber n }

-- the difference of two numbers; one number is 0
abbrev pub signed_field : List ℕ → ℕ → ℕ → FieldView
signed_field name above below = if nat_lt 0 below then record { name = name; value = IsBelow below } else number_field name above

abbrev pub word_field : List ℕ → List ℕ → FieldView
word_field name word = record { name = name; value = IsWord word }

abbrev pub seconds_field : List ℕ → ℕ → FieldView
seconds_field name ticks = record { name = name; value = IsSeconds ticks }

-- ticks of 27 MHz in seconds, rounded down to milliseconds
abbrev pub millis_of : ℕ → ℕ
millis_of ticks = ticks / 27000

abbrev pub seconds_text : ℕ → List ℕ
seconds_text ticks = decimal (millis_of ticks / 1000) ++ (codes "." ++ (decimal (millis_of ticks / 100 % 10)
    ++ (decimal (millis_of ticks / 10 % 10) ++ decimal (millis_of ticks % 10))))

abbrev pub quote : List ℕ
quote = 34 ∷ []

-- a number in decimal digits, after its sign if it is below 0; a word as it is, between quotation marks in an object; a moment in seconds
unfoldable pub value_text : Bool → ValueView → List ℕ
value_text json (IsNumber n) = decimal n
value_text json (IsBelow n) = codes "-" ++ decimal n
value_text json (IsWord word) = if json then quote ++ (word ++ quote) else word
value_text json (IsSeconds ticks) = seconds_text ticks

-- ` NAME ` or `,"NAME":`
abbrev pub name_text : Bool → List ℕ → List ℕ
name_text json name = if json then codes "," ++ (quote ++ (name ++ (quote ++ codes ":"))) else codes " " ++ (name ++ codes " ")

abbrev pub field_text : Bool → FieldView → List ℕ
field_text json field = name_text json field.name ++ value_text json field.value

-- a field with a number, if there is one
unfoldable pub number_text : Bool → List ℕ → Option ℕ → List ℕ
number_text json name None = []
number_text json name (Some n) = field_text json (number_field name n)

-- `WORD` or `{"line":"WORD"`
abbrev pub first_text : Bool → List ℕ → List ℕ
first_text json word = if json then codes "{" ++ (quote ++ (codes "line" ++ (quote ++ (codes ":" ++ (quote ++ (word ++ quote)))))) else word

abbrev pub last_text : Bool → List ℕ
last_text json = if json then codes "}\n" else codes "\n"

-- a text between quotation marks, as JSON has it: a backslash before a quotation mark and before a backslash; it has no control characters
abbrev pub escape : ℕ → List ℕ
escape c = if c == 34 || c == 92 then 92 ∷ [] else []

abbrev pub escaped : ℕ → List ℕ
escaped c = escape c ++ encode_utf8 c

abbrev pub quoted : List ℕ → List ℕ
quoted text = quote ++ (flat_map escaped (chars text) ++ quote)

-- a line without its end
abbrev pub line_of : Bool → List ℕ → List FieldView → List ℕ
line_of json word fields = first_text json word ++ flat_map (field_text json) fields
