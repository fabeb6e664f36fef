-- Words that people type: short names of options, a subcommand, and names of files without `--` before them.
use Rattle.std.specs.Prelude.{ℕ, List, [], ◌∷◌, ◌++◌, drop, find, Option, Some, None, if◌then◌else◌, codes}
use Rattle.std.specs.Borrow.{Bor}
use Rattle.std.specs.Str.{bytes_eq}
use Rattle.word_faults.specs.CommandLine.{CommandLine, Text}
use Rattle.word_faults.specs.SortedWords.{marked, name_words, option_words}
use Rattle.word_faults.specs.WordFaults.{word_beside}
use Rattle.word_faults.specs.declared.commands.Names.{Names}

-- 1. Short names

-- a short name and the long one, as words; the same of names in memory, and of names in a constant
abbrev pub Short : Type 0
Short = Names Text

abbrev pub short_view : Names (Bor (List ℕ)) → Short
short_view s = record { short = s.short.now; long = s.long.now }

abbrev pub constant_short : Names (record { now : List ℕ }) → Short
constant_short s = record { short = s.short.now; long = s.long.now }

abbrev pub long_by : Text → Option Short → Text
long_by word None = word
long_by word (Some s) = s.long

unfoldable pub long_word : List Short → Text → Text
long_word shorts word = long_by word (find (λ s. bytes_eq s.short word) shorts)

-- words after `--` are names of files
unfoldable pub long_words : List Short → List Text → List Text
long_words shorts [] = []
long_words shorts (w ∷ rest) = if bytes_eq w (codes "--") then w ∷ rest else long_word shorts w ∷ long_words shorts rest

-- 2. The subcommand

-- the first word beside the options, if the program knows it
abbrev pub if_known : CommandLine → Option Text → Option Text
if_known c None = None
if_known c (Some w) = if c.is_word w then Some w else None

abbrev pub command_of : CommandLine → List Text → Option Text
command_of c words = if_known c (word_beside c words)

abbrev pub names_after : Option Text → List Text → List Text
names_after None names = names
names_after (Some w) names = drop 1 names

abbrev pub command_words : Option Text → List Text
command_words None = []
command_words (Some w) = w ∷ []

-- 3. All words: the subcommand, the options, each with its value, and the names of files after `--`

abbrev pub sorted_command : CommandLine → List Text → List Text
sorted_command c words =
    command_words (command_of c words) ++ (option_words c words ++ marked (names_after (command_of c words) (name_words c words)))
