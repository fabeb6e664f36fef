-- Values of keys, as the parsed TOML document gives them: None if the value is refused.
use Rattle.std.specs.Prelude.{ℕ, ℤ, ◌&&◌, ◌||◌, ◌==◌, nat_le, nat_lt, not, Bool, true, false, List, [], ◌∷◌, Option, None, Some, Ok, Err, length, is_some}
use Rattle.std.specs.Prelude.{unsigned_abs, int_le, option_and_then, option_map, if◌then◌else◌, unwrap_or}
use Rattle.std.specs.List.{list_all, list_any}
use Rattle.hex.specs.Hex.{decode_of}
use Rattle.psi_tables.specs.Reading.{section_at}
use Rattle.dvb_tables.specs.CharacterCoding.{text_bytes}
use Rattle.toml.specs.Data.{Data, get, as_integer, as_bool, as_str, as_array, as_table, Items, no_items, item}
use Rattle.dvb_tables.specs.DescriptorLoops.{are_whole_descriptors}

-- what a key's value reads as: `absent` if the key is not there, otherwise the value that `read` makes of it
abbrev pub at_key : {X : Type 0} → List ℕ → Option X → (Data → Option X) → Data → Option X
at_key key absent read d = elim (get key d) [ None ↦ absent | Some value ↦ read value ]

-- a number from low to high
abbrev pub in_range : ℤ → ℤ → ℤ → Option ℕ
in_range low high z = if int_le low z && int_le z high then Some (unsigned_abs z) else None

abbrev pub integer_in : ℤ → ℤ → Data → Option ℕ
integer_in low high d = option_and_then (in_range low high) (as_integer d)

-- a number at a key: a number that is required, a number with a default, a number that may be absent
abbrev pub integer_at : List ℕ → ℤ → ℤ → Data → Option ℕ
integer_at key low high = at_key key None (integer_in low high)

abbrev pub integer_or : ℕ → List ℕ → ℤ → ℤ → Data → Option ℕ
integer_or default key low high = at_key key (Some default) (integer_in low high)

abbrev pub optional_integer : List ℕ → ℤ → ℤ → Data → Option (Option ℕ)
optional_integer key low high = at_key key (Some None) (λ d. option_map Some (integer_in low high d))

-- true or false, with a default
abbrev pub boolean_or : Bool → List ℕ → Data → Option Bool
boolean_or default key = at_key key (Some default) as_bool

-- octets, at most that many
abbrev pub is_octet : ℕ → Bool
is_octet b = nat_lt b 256

abbrev pub are_octets : ℕ → List ℕ → Bool
are_octets most bytes = nat_le (length bytes) most && list_all is_octet bytes

-- a text of at most that many octets as it is written in a descriptor (EN 300 468, annex A), in its written form
abbrev pub text_in : ℕ → Data → Option (List ℕ)
text_in most d = elim (as_str d) [ None ↦ None | Some text ↦ if are_octets most (text_bytes text) then Some (text_bytes text) else None ]

-- no text, or one of more bytes
abbrev pub is_beyond : ℕ → Option (List ℕ) → Bool
is_beyond most None = true
is_beyond most (Some bytes) = nat_lt most (length bytes)

abbrev pub text_at : ℕ → List ℕ → Data → Option (List ℕ)
text_at most key = at_key key None (text_in most)

abbrev pub text_or : ℕ → List ℕ → Data → Option (List ℕ)
text_or most key = at_key key (Some []) (text_in most)

-- three ASCII letters (ISO 639-2)
abbrev pub is_letter : ℕ → Bool
is_letter c = (nat_le 65 c && nat_le c 90) || (nat_le 97 c && nat_le c 122)

abbrev pub language_of : List ℕ → Option (List ℕ)
language_of (a ∷ b ∷ c ∷ []) = if is_letter a && is_letter b && is_letter c then Some (a ∷ b ∷ c ∷ []) else None
language_of _ = None

abbrev pub language_in : Data → Option (List ℕ)
language_in d = option_and_then language_of (as_str d)

abbrev pub language_at : List ℕ → Data → Option (List ℕ)
language_at key = at_key key None language_in

abbrev pub optional_language : List ℕ → Data → Option (Option (List ℕ))
optional_language key = at_key key (Some None) (λ d. option_map Some (language_in d))

-- the bytes that a text of pairs of hexadecimal digits writes, at most that many
abbrev pub hex_bytes : ℕ → List ℕ → Option (List ℕ)
hex_bytes most text = elim (decode_of text) [ Ok bytes ↦ if nat_le (length bytes) most then Some bytes else None | Err e ↦ None ]

-- hexadecimal bytes that are whole descriptors, at most that many bytes
abbrev pub descriptors_in : ℕ → Data → Option (List ℕ)
descriptors_in most d = option_and_then (λ bytes. if are_whole_descriptors bytes then Some bytes else None) (option_and_then (hex_bytes most) (as_str d))

abbrev pub descriptors_or_none : ℕ → List ℕ → Data → Option (List ℕ)
descriptors_or_none most key = at_key key (Some []) (descriptors_in most)

abbrev pub descriptors_at : ℕ → List ℕ → Data → Option (List ℕ)
descriptors_at most key = at_key key None (descriptors_in most)

-- hexadecimal bytes that are exactly one section (ISO/IEC 13818-1, 2.4.4.10)
abbrev pub is_one_section : List ℕ → Bool
is_one_section bytes = elim (section_at bytes) [ Ok section ↦ section.1 == length bytes | Err e ↦ false ]

abbrev pub section_in : Data → Option (List ℕ)
section_in d = option_and_then (λ bytes. if is_one_section bytes then Some bytes else None) (option_and_then (hex_bytes 4096) (as_str d))

-- the elements of an array, and of the array at a key: none if there is no array
abbrev pub list_of : Items → List Data
list_of no_items = []
list_of (item d ds) = d ∷ list_of ds

abbrev pub array_in : Data → Option (List Data)
array_in d = option_map list_of (as_array d)

abbrev pub elements_in : Data → List Data
elements_in d = unwrap_or (array_in d) []

abbrev pub elements : List ℕ → Data → List Data
elements key d = elim (get key d) [ None ↦ [] | Some value ↦ elements_in value ]

-- from low to high elements
abbrev pub has_length : ℕ → ℕ → List Data → Bool
has_length low high ds = nat_le low (length ds) && nat_le (length ds) high

-- an array of low to high tables
abbrev pub is_table : Data → Bool
is_table d = is_some (as_table d)

abbrev pub are_tables : ℕ → ℕ → Data → Bool
are_tables low high d = elim (array_in d) [ None ↦ false | Some ds ↦ has_length low high ds && list_all is_table ds ]

-- the same at a key; `absent` is the answer if the key is absent
abbrev pub tables_at : Bool → List ℕ → ℕ → ℕ → Data → Bool
tables_at absent key low high d = elim (get key d) [ None ↦ absent | Some value ↦ are_tables low high value ]

-- an array of 1 to 8 sections
abbrev pub is_section : Data → Bool
is_section d = is_some (section_in d)

abbrev pub are_sections : Data → Bool
are_sections d = elim (array_in d) [ None ↦ false | Some ds ↦ has_length 1 8 ds && list_all is_section ds ]

abbrev pub sections_at : List ℕ → Data → Bool
sections_at key d = elim (get key d) [ None ↦ false | Some value ↦ are_sections value ]

-- no number is in the list twice
abbrev pub is_distinct : List ℕ → Bool
is_distinct [] = true
is_distinct (n ∷ ns) = not (list_any (λ m. m == n) ns) && is_distinct ns
