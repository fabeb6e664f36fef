-- What the words of the command line ask for.
use Rattle.std.specs.Prelude.{Bool, ◌||◌, if◌then◌else◌, List, ◌∷◌, Option, codes, is_some, option_and_then}
use Rattle.std.specs.List.{list_any}
use Rattle.std.specs.Str.{bytes_eq}
use Rattle.word_faults.specs.CommandLine.{CommandLine, Text}
use Rattle.word_faults.specs.Commands as commands
use Rattle.word_faults.specs.SortedWords as sorting
use Rattle.tsjob_cli.specs.Command.{shorts, unless_output, words_but_output}
use Rattle.tsjob_cli.specs.FileWords.{option_words}
use Rattle.tsremux_cli.specs.Options.{hand_words, known_words}

-- 1. A service by hand

abbrev pub value_of : Text → List Text → Option Text
value_of option words = sorting.value_given option (option_words words)

-- the files of its description, of its plan and of its records; none if its records are the input
abbrev pub description_of : List Text → Option Text
description_of words = value_of (codes "--description") words

abbrev pub plan_of : List Text → Option Text
plan_of words = value_of (codes "--plan") words

abbrev pub records_of : List Text → Option Text
records_of words = option_and_then unless_output (value_of (codes "--records") words)

-- words ask for a service by hand if they name one among its files
abbrev pub is_by_hand : List Text → Bool
is_by_hand words = is_some (description_of words) || (is_some (plan_of words) || is_some (value_of (codes "--records") words))

-- 2. All words

-- with long names of options: for a service by hand in their order; otherwise the options, each with its value, then the names of files after `--`
abbrev pub in_order : List Text → List Text
in_order long = if is_by_hand long then long else commands.sorted_command known_words long

abbrev pub sorted_words : List Text → List Text
sorted_words words = in_order (commands.long_words shorts words)

-- the options known to the program
abbrev pub known_for : List Text → CommandLine
known_for words = if is_by_hand words then hand_words else known_words

-- each of them can be taken, and the version is not asked for
abbrev pub are_taken : List Text → Bool
are_taken words = sorting.are_taken (known_for words) words

-- the words for `tsjob`, of sorted words; all words of a service by hand
abbrev pub job_words : List Text → List Text
job_words words = if is_by_hand words then words else codes "--whole" ∷ words_but_output words

-- only refusals are reported
abbrev pub is_quiet : List Text → Bool
is_quiet words = list_any (λ word. bytes_eq word (codes "--quiet")) (option_words words)
