-- The key `versions` of the document: texts that name a table and the version_number of its sections, 0 to 31 (ISO/IEC 13818-1, 2.4.4.5;
-- EN 300 468, 5.2): "PAT 3", "NIT 0", "SDT 17", for the PMT of the program of a number "PMT 5 2", and for its EIT "EIT 5 9".
use Rattle.std.specs.Prelude.{ℕ, ◌+◌, ◌-◌, ◌*◌, ◌==◌, ◌&&◌, nat_eq, nat_le, min, not, position, Bool, false, List, [], ◌∷◌, length, take, drop}
use Rattle.std.specs.Prelude.{Option, None, Some, codes, is_some, option_and_then, option_map, unwrap_or, if◌then◌else◌}
use Rattle.std.specs.List.{list_all, starts_with}
use Rattle.toml.specs.Data.{Data, as_str, get}
use Rattle.description_values.specs.Values.{array_in, elements}
use Rattle.description_keys.specs.declared.version_keys.NamedTable.{NamedTable}
use Rattle.description_keys.specs.declared.version_keys.NamedTable.TheVariants.{Pat, Nit, Sdt, Pmt, Eit}
use Rattle.description_keys.specs.declared.version_keys.NamedVersion.{NamedVersion}

-- the number that decimal digits write after a number n: 65,536 for all numbers from there on
abbrev pub is_digit : ℕ → Bool
is_digit c = nat_le 48 c && nat_le c 57

abbrev pub number_after : ℕ → List ℕ → Option ℕ
number_after n [] = Some n
number_after n (c ∷ text) = if is_digit c then number_after (min 65536 (10 * n + (c - 48))) text else None

-- a number within a range
abbrev pub if_within : ℕ → ℕ → ℕ → Option ℕ
if_within low high n = if nat_le low n && nat_le n high then Some n else None

-- the number of one or more digits and nothing else, within a range below 65,536
abbrev pub number_within : ℕ → ℕ → List ℕ → Option ℕ
number_within low high [] = None
number_within low high (c ∷ text) = option_and_then (if_within low high) (number_after 0 (c ∷ text))

-- a table, the program's number, and the version: PAT, NIT and SDT belong to no program, whose number is 0
abbrev pub new_version : NamedTable → ℕ → ℕ → NamedVersion
new_version table program version = record { table = table; program = program; version = version }

-- the version after the table's name
abbrev pub version_of_stream : NamedTable → List ℕ → Option NamedVersion
version_of_stream table text = option_map (new_version table 0) (number_within 0 31 text)

-- the program's number and the version after the table's name, with a space between them
abbrev pub numbered_version : NamedTable → Option ℕ → Option ℕ → Option NamedVersion
numbered_version table (Some program) (Some version) = Some (new_version table program version)
numbered_version table _ _ = None

abbrev pub version_of_program : NamedTable → List ℕ → Option NamedVersion
version_of_program table text = elim (position (λ c. c == 32) text) [
  | None ↦ None
  | Some i ↦ numbered_version table (number_within 1 65535 (take i text)) (number_within 0 31 (drop (i + 1) text))
]

abbrev pub begins : List ℕ → List ℕ → Bool
begins text name = starts_with nat_eq text name

-- the table's name, a table of the stream or of a program, and a space
abbrev pub stream_table : List ℕ → Option NamedTable
stream_table text = if begins text (codes "PAT ") then Some Pat else if begins text (codes "NIT ") then Some Nit
    else if begins text (codes "SDT ") then Some Sdt else None

abbrev pub program_table : List ℕ → Option NamedTable
program_table text = if begins text (codes "PMT ") then Some Pmt else if begins text (codes "EIT ") then Some Eit else None

-- what follows the name
abbrev pub version_after : Option NamedTable → Option NamedTable → List ℕ → Option NamedVersion
version_after (Some table) _ text = version_of_stream table text
version_after None (Some table) text = version_of_program table text
version_after None None text = None

abbrev pub version_in : List ℕ → Option NamedVersion
version_in text = if nat_le 4 (length text) then version_after (stream_table text) (program_table text) (drop 4 text) else None

abbrev pub named_version : Data → Option NamedVersion
named_version d = option_and_then version_in (as_str d)

-- a kind of table by its number
abbrev pub table_number : NamedTable → ℕ
table_number Pat = 0
table_number Nit = 1
table_number Sdt = 2
table_number Pmt = 3
table_number Eit = 4

-- the version that a text names for a table
abbrev pub is_version_of : NamedTable → ℕ → NamedVersion → Bool
is_version_of table program v = table_number v.table == table_number table && v.program == program

abbrev pub version_if : NamedTable → ℕ → Data → Option ℕ
version_if table program d =
    option_and_then (λ v. if is_version_of table program v then Some v.version else None) (named_version d)

-- the first of the texts for the table; 0 if there is no such text
abbrev pub first_version : NamedTable → ℕ → List Data → ℕ
first_version table program [] = 0
first_version table program (d ∷ ds) = unwrap_or (version_if table program d) (first_version table program ds)

abbrev pub version_at : NamedTable → ℕ → Data → ℕ
version_at table program document = first_version table program (elements (codes "versions") document)

-- refused: no list, or a text of another form
abbrev pub are_versions : Data → Bool
are_versions d = elim (array_in d) [ None ↦ false | Some ds ↦ list_all (λ d. is_some (named_version d)) ds ]

abbrev pub refuses_versions : Data → Bool
refuses_versions document = elim (get (codes "versions") document) [ None ↦ false | Some value ↦ not (are_versions value) ]
