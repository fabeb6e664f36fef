-- A table of options, and what a word or a value is by it.
use Rattle.std.specs.Prelude.{ℕ, Bool, true, false, if◌then◌else◌, nat_eq, List, [], drop, Option, Some, None, codes, find, is_some, option_map}
use Rattle.std.specs.Prelude.{option_and_then}
use Rattle.std.specs.Borrow.{Bor}
use Rattle.std.specs.List.{starts_with}
use Rattle.std.specs.Str.{bytes_eq}
use Rattle.devices.specs.Options.{decimal, within}
use Rattle.word_faults.specs.JobValues.{base_of, clock_sharing_of, declare_by_of, start_of}
use Rattle.word_faults.specs.Lists.{buffer_list, number_list}
use Rattle.word_faults.specs.NameLists.{name_list, network_in}
use Rattle.word_faults.specs.Scaled.{scaled_in}
use Rattle.pes_packet.specs.StreamIds.{is_unit_id}
use Rattle.word_faults.specs.CommandLine.{Text}
use Rattle.word_faults.specs.declared.option_row.Row.{Row}
use Rattle.word_faults.specs.declared.option_row.ValueKind.{ValueKind}
use Rattle.word_faults.specs.declared.option_row.ValueKind.TheVariants.{Flag, Alone, Word, Number, Scaled, Numbers, Buffers, StreamId, Moment, Declare, Clock, Base}
use Rattle.word_faults.specs.declared.option_row.ValueKind.TheVariants.{Network, Names, File}

-- a row with its texts, the same of a row in memory, and of a row of a constant
abbrev pub OptionRow : Type 0
OptionRow = Row Text

abbrev pub view : Row (Bor (List ℕ)) → OptionRow
view row = record { name = row.name.now; value = row.value; form = row.form.now; unit = row.unit.now; apart = row.apart.now; help = row.help.now }

abbrev pub constant_view : Row (record { now : List ℕ }) → OptionRow
constant_view row = record { name = row.name.now; value = row.value; form = row.form.now; unit = row.unit.now; apart = row.apart.now; help = row.help.now }

-- 1. The option of a word

-- the name after two hyphens
abbrev pub name_in : Text → Option Text
name_in word = if starts_with nat_eq word (codes "--") then Some (drop 2 word) else None

-- the value of the first option of this name
unfoldable pub kind_named : List OptionRow → Text → Option ValueKind
kind_named rows name = option_map (λ row. row.value) (find (λ row. bytes_eq row.name name) rows)

abbrev pub kind_of : List OptionRow → Text → Option ValueKind
kind_of rows word = option_and_then (kind_named rows) (name_in word)

-- the first row of this name
abbrev pub row_of : List OptionRow → Text → Option OptionRow
row_of rows word = option_and_then (λ name. find (λ row. bytes_eq row.name name) rows) (name_in word)

-- 2. The values of an option, and the option that it excludes

-- the word of the option that an option excludes; empty if there is none
abbrev pub apart_by : Option OptionRow → Text
apart_by None = []
apart_by (Some row) = row.apart

unfoldable pub apart_of : List OptionRow → Text → Text
apart_of rows word = apart_by (row_of rows word)

-- whether a value follows the option: none if there is no option, or if the row allows no other word or is a word beside options
abbrev pub takes_value : Option ValueKind → Option Bool
takes_value None = None
takes_value (Some Flag) = Some false
takes_value (Some Alone) = None
takes_value (Some Word) = None
takes_value (Some kind) = Some true

abbrev pub is_alone : Option ValueKind → Bool
is_alone (Some Alone) = true
is_alone kind = false

-- a stream_id of units
abbrev pub is_id_number : Option ℕ → Bool
is_id_number None = false
is_id_number (Some id) = is_unit_id id

abbrev pub is_id : Text → Bool
is_id text = is_id_number (option_and_then (within 0 255) (decimal text))

-- a value of this kind, each number in its range
unfoldable pub is_value : ValueKind → Text → Bool
is_value Flag text = false
is_value Alone text = false
is_value Word text = false
is_value (Number least greatest default) text = is_some (option_and_then (within least greatest) (decimal text))
is_value (Scaled scale least greatest default) text = is_some (scaled_in scale least greatest text)
is_value (Numbers greatest) text = is_some (number_list greatest (Some text))
is_value Buffers text = is_some (buffer_list (Some text))
is_value StreamId text = is_id text
is_value Moment text = is_some (start_of (Some text))
is_value Declare text = is_some (declare_by_of (Some text))
is_value Clock text = is_some (clock_sharing_of (Some text))
is_value Base text = is_some (base_of (Some text))
is_value Network text = is_some (network_in text)
is_value Names text = is_some (name_list (Some text))
is_value File text = true

abbrev pub reads : Option ValueKind → Text → Bool
reads None text = false
reads (Some kind) text = is_value kind text
