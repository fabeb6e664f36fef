-- The usage of a program, by its table of options.
use Rattle.std.specs.Prelude.{◌-◌, Bool, false, if◌then◌else◌, List, [], ◌∷◌, ◌++◌, Option, Some, None, length, replicate, codes, flat_map}
use Rattle.std.specs.Str.{bytes_eq}
use Rattle.devices.specs.Usage.{range_text}
use Rattle.word_faults.specs.JobValues.{greatest_base}
use Rattle.word_faults.specs.CommandLine.{Text}
use Rattle.word_faults.specs.OptionRows.{OptionRow}
use Rattle.word_faults.specs.declared.option_row.ValueKind.{ValueKind}
use Rattle.word_faults.specs.declared.option_row.ValueKind.TheVariants.{Flag, Alone, Word, Number, Scaled, Base}

-- how a value is written: a number without a form by its range, and the base of a clock by its range too
abbrev pub value_text : ValueKind → Text → Text
value_text Flag form = []
value_text Alone form = []
value_text (Number least greatest default) [] = codes " " ++ range_text least greatest
value_text (Number least greatest default) (b ∷ form) = codes " " ++ (b ∷ form)
value_text (Scaled scale least greatest default) [] = codes " " ++ range_text least greatest
value_text (Scaled scale least greatest default) (b ∷ form) = codes " " ++ (b ∷ form)
value_text Base form = codes " " ++ (range_text 0 greatest_base ++ codes "|input")
value_text kind form = codes " " ++ form

-- the word and its value, filled with spaces to 33 bytes, and what the option is for
abbrev pub filled : Text → Text
filled text = text ++ replicate (33 - length text) 32

abbrev pub option_text : OptionRow → Text
option_text row = filled (codes "  --" ++ (row.name ++ value_text row.value row.form)) ++ (row.help ++ codes "\n")

-- a word beside the options has no line
abbrev pub text_by : ValueKind → OptionRow → Text
text_by Word row = []
text_by kind row = option_text row

abbrev pub row_text : OptionRow → Text
row_text row = text_by row.value row

-- the lines before the options, and a line for each option
abbrev pub usage_by : Text → List OptionRow → Text
usage_by front rows = front ++ flat_map row_text rows

-- an option in the line of a subcommand: in brackets if it need not be given
abbrev pub is_required : Option Text → Text → Bool
is_required None word = false
is_required (Some required) word = bytes_eq required word

abbrev pub word_text : OptionRow → Text
word_text row = codes "--" ++ (row.name ++ value_text row.value row.form)

abbrev pub inline_text : Option Text → OptionRow → Text
inline_text required row =
    if is_required required (codes "--" ++ row.name) then codes " " ++ word_text row else codes " [" ++ (word_text row ++ codes "]")

-- all options of a subcommand
abbrev pub inline_by : Option Text → List OptionRow → Text
inline_by required rows = flat_map (inline_text required) rows
