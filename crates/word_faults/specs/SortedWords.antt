-- The words of a command line, sorted: options with their values, and words beside them.
use Rattle.std.specs.Prelude.{Bool, true, false, ◌&&◌, not, is_none, if◌then◌else◌, List, [], ◌∷◌, ◌++◌, drop, Option, Some, None, codes}
use Rattle.std.specs.Str.{bytes_eq}
use Rattle.word_faults.specs.CommandLine.{CommandLine, Text}
use Rattle.word_faults.specs.UsageReport.{asks_version}
use Rattle.word_faults.specs.WordFaults.{first_fault, is_dashed, is_file_mark, is_option, value_in, wants_value}

-- the options before `--`, each with its value; `is_value` if the next word is a value
unfoldable pub options_from : CommandLine → Bool → List Text → List Text
options_from c is_value [] = []
options_from c true (w ∷ rest) = w ∷ options_from c false rest
options_from c false (w ∷ rest) =
    if is_file_mark c w then []
    else (if is_dashed w then w ∷ options_from c (wants_value c w) rest else options_from c false rest)

abbrev pub option_words : CommandLine → List Text → List Text
option_words c words = options_from c false words

-- the words beside the options, and all words after `--`
unfoldable pub names_from : CommandLine → Bool → List Text → List Text
names_from c is_value [] = []
names_from c true (w ∷ rest) = names_from c false rest
names_from c false (w ∷ rest) =
    if is_file_mark c w then rest
    else (if is_dashed w then names_from c (wants_value c w) rest else w ∷ names_from c false rest)

abbrev pub name_words : CommandLine → List Text → List Text
name_words c words = names_from c false words

-- each word can be taken, and the version is not asked for
abbrev pub are_taken : CommandLine → List Text → Bool
are_taken c words = not (asks_version words) && is_none (first_fault c words)

-- names after `--`; no names, or `-` alone, are the input
abbrev pub is_input : List Text → Bool
is_input [] = true
is_input (name ∷ []) = bytes_eq name (codes "-")
is_input names = false

abbrev pub marked : List Text → List Text
marked names = if is_input names then [] else codes "--" ∷ names

-- the value that is given to an option, and the words without both
abbrev pub value_by : Option Text → List Text → Option Text
value_by (Some value) rest = Some value
value_by None [] = None
value_by None (value ∷ rest) = Some value

unfoldable pub value_given : Text → List Text → Option Text
value_given option [] = None
value_given option (w ∷ rest) = if is_option option w then value_by (value_in w) rest else value_given option rest

abbrev pub after_option : Option Text → List Text → List Text
after_option (Some value) rest = rest
after_option None rest = drop 1 rest

unfoldable pub words_without : Text → List Text → List Text
words_without option [] = []
words_without option (w ∷ rest) = if is_option option w then after_option (value_in w) rest else w ∷ words_without option rest
