-- The values that a command line gives to the options of a table, as `clap` reads them.
use Rattle.std.specs.Prelude.{ℕ, true, max, min, unwrap_or, List, [], ◌∷◌, Option, Some, None, option_map}
use Rattle.clap.specs.Words.{App, Kinds, Row, fault_of, first_of, matches_of, new_app, new_rule, with_rule}
use Rattle.devices.specs.Options.{flag_rule, number_given, number_if_given, number_option, option_rule}
use Rattle.word_faults.specs.Lists.{number_list}
use Rattle.word_faults.specs.Scaled.{scaled_in}
use Rattle.word_faults.specs.declared.scaled.Scale.{Scale}
use Rattle.word_faults.specs.CommandLine.{Text}
use Rattle.word_faults.specs.OptionRows.{OptionRow, kind_named}
use Rattle.word_faults.specs.declared.option_row.ValueKind.{ValueKind}
use Rattle.word_faults.specs.declared.option_row.ValueKind.TheVariants.{Flag, Alone, Word, Number, Scaled, Numbers}

-- 1. The command line as it is declared to `clap`: the options of the rows, and a word beside them; a word that allows no other word is not declared

abbrev pub option_by : App → ValueKind → Text → App
option_by app Flag name = with_rule app (flag_rule name)
option_by app Alone name = app
option_by app Word name = with_rule app (new_rule name)
option_by app kind name = with_rule app (option_rule name)

abbrev pub with_option : App → OptionRow → App
with_option app row = option_by app row.value row.name

unfoldable pub with_options : App → List OptionRow → App
with_options app [] = app
with_options app (row ∷ rows) = with_options (with_option app row) rows

abbrev pub top_app : Text → App
top_app program = record (new_app program) { top = record (new_app program).top { no_binary_name = true } }

abbrev pub app_of_options : Text → List OptionRow → App
app_of_options program rows = with_options (top_app program) rows

-- a subcommand with the options of its own table
abbrev pub subcommand_by : Text → List OptionRow → App
subcommand_by name rows = with_options (new_app name) rows

-- 2. The values that words give to options

unfoldable pub unless_faulty : Kinds → List Row → Option (List Row)
unless_faulty [] given = Some given
unless_faulty (k ∷ ks) given = None

-- none if the words are a usage error
abbrev pub given_options : Text → List OptionRow → List Text → Option (List Row)
given_options program rows words = unless_faulty (fault_of (app_of_options program rows) words) (matches_of (app_of_options program rows) words)

-- 3. Numbers

-- a number of digits alone
abbrev pub plain_or : ℕ → ℕ → Option ℕ → Option Text → Option ℕ
plain_or least greatest None text = number_given least greatest text
plain_or least greatest (Some default) text = number_option least greatest default text

-- a number that may have a unit: a value of an option that is given, and without one the default
abbrev pub scaled_or : Scale → ℕ → ℕ → Option ℕ → Option Text → Option ℕ
scaled_or scale least greatest default None = default
scaled_or scale least greatest default (Some text) = scaled_in scale least greatest text

abbrev pub scaled_if : Scale → ℕ → ℕ → Option Text → Option (Option ℕ)
scaled_if scale least greatest None = Some None
scaled_if scale least greatest (Some text) = option_map Some (scaled_in scale least greatest text)

-- the number of an option of this kind: the default if it is not given, none if the text is no number of the range
unfoldable pub number_by : Option ValueKind → Option Text → Option ℕ
number_by (Some (Number least greatest default)) text = plain_or least greatest default text
number_by (Some (Scaled scale least greatest default)) text = scaled_or scale least greatest default text
number_by kind text = None

abbrev pub number_of : List OptionRow → Text → List Row → Option ℕ
number_of rows name given = number_by (kind_named rows name) (first_of name given)

-- the least and the greatest number of an option of this kind
unfoldable pub least_by : Option ValueKind → ℕ
least_by (Some (Number least greatest default)) = least
least_by (Some (Scaled scale least greatest default)) = least
least_by kind = 0

-- and the least number with the default
unfoldable pub lowest_by : Option ValueKind → ℕ
lowest_by (Some (Number least greatest default)) = min least (unwrap_or default least)
lowest_by (Some (Scaled scale least greatest default)) = min least (unwrap_or default least)
lowest_by kind = 0

unfoldable pub greatest_by : Option ValueKind → ℕ
greatest_by (Some (Number least greatest default)) = max greatest (unwrap_or default 0)
greatest_by (Some (Scaled scale least greatest default)) = max greatest (unwrap_or default 0)
greatest_by (Some (Numbers greatest)) = greatest
greatest_by kind = 0

abbrev pub least_of : List OptionRow → Text → ℕ
least_of rows name = least_by (kind_named rows name)

abbrev pub lowest_of : List OptionRow → Text → ℕ
lowest_of rows name = lowest_by (kind_named rows name)

abbrev pub greatest_of : List OptionRow → Text → ℕ
greatest_of rows name = greatest_by (kind_named rows name)

-- the number of an option that need not be given
unfoldable pub number_if_by : Option ValueKind → Option Text → Option (Option ℕ)
number_if_by (Some (Number least greatest default)) text = number_if_given least greatest text
number_if_by (Some (Scaled scale least greatest default)) text = scaled_if scale least greatest text
number_if_by kind text = None

abbrev pub number_if : List OptionRow → Text → List Row → Option (Option ℕ)
number_if rows name given = number_if_by (kind_named rows name) (first_of name given)

-- 4. Lists of numbers

-- none if a part is no number of the range
unfoldable pub numbers_by : Option ValueKind → Option Text → Option (List ℕ)
numbers_by (Some (Numbers greatest)) text = number_list greatest text
numbers_by kind text = None

abbrev pub numbers_of : List OptionRow → Text → List Row → Option (List ℕ)
numbers_of rows name given = numbers_by (kind_named rows name) (first_of name given)
