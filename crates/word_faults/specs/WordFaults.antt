-- The first word of a command line that cannot be taken, and why.
use Rattle.std.specs.Prelude.{ℕ, ◌&&◌, ◌||◌, ◌==◌, Bool, true, false, not, if◌then◌else◌, nat_lt, List, [], ◌∷◌, ◌++◌, length, Option, Some, None, codes}
use Rattle.std.specs.List.{list_any, before_first, after_first, position_or_len}
use Rattle.std.specs.Str.{bytes_eq}
use Rattle.word_faults.specs.CommandLine.{CommandLine, Text}
use Rattle.word_faults.specs.declared.word_fault.WordFault.{WordFault}
use Rattle.word_faults.specs.declared.word_fault.Reason.{Reason}
use Rattle.word_faults.specs.declared.word_fault.Reason.TheVariants.{Unknown, Twice, NoValue, BadValue, BadNextWord, Alone, Apart, Missing, Help}

-- 1. What a word looks like

-- a hyphen, and something after it
abbrev pub is_dashed : Text → Bool
is_dashed (x ∷ y ∷ rest) = x == 45
is_dashed word = false

-- `--NAME=VALUE` has its value with it
abbrev pub has_equals : Text → Bool
has_equals word = nat_lt (position_or_len (λ b. b == 61) word) (length word)

abbrev pub option_in : Text → Text
option_in word = if has_equals word then before_first (λ b. b == 61) word else word

abbrev pub value_in : Text → Option Text
value_in word = if has_equals word then Some (after_first (λ b. b == 61) word) else None

-- a call for help
abbrev pub is_help : Text → Bool
is_help word = bytes_eq word (codes "--help") || bytes_eq word (codes "-h")

-- 2. A word after other words

-- an option is among these words
abbrev pub is_option : Text → Text → Bool
is_option option word = is_dashed word && bytes_eq (option_in word) option

abbrev pub is_given : Text → List Text → Bool
is_given option words = list_any (is_option option) words

-- a word is the value of the option before it
abbrev pub next_reason : CommandLine → Text → List Text → Option Reason
next_reason c option [] = Some NoValue
next_reason c option (v ∷ rest) = if is_dashed v then Some NoValue else (if c.reads option v then None else Some BadNextWord)

abbrev pub value_reason : CommandLine → Text → Option Text → List Text → Option Reason
value_reason c option (Some v) rest = if c.reads option v then None else Some BadValue
value_reason c option None rest = next_reason c option rest

abbrev pub flag_reason : Option Text → Option Reason
flag_reason (Some v) = Some BadValue
flag_reason None = None

abbrev pub known_reason : CommandLine → Bool → Text → Option Text → List Text → Option Reason
known_reason c true option value rest = value_reason c option value rest
known_reason c false option value rest = flag_reason value

abbrev pub option_reason : CommandLine → Option Bool → List Text → Text → Option Text → List Text → Option Reason
option_reason c None before option value rest = Some Unknown
option_reason c (Some takes) before option value rest =
    if is_given option before then Some Twice
    else (if is_given (c.apart option) before then Some Apart else known_reason c takes option value rest)

-- one word is allowed beside the options, if the program knows it
abbrev pub word_reason : CommandLine → Bool → Text → Option Reason
word_reason c has_word word = if c.is_word word && not has_word then None else Some Unknown

-- a word that has to be the only one: the version, or a word that allows no other
abbrev pub is_alone : CommandLine → Text → Bool
is_alone c word = bytes_eq word (codes "--version") || c.must_be_alone word

abbrev pub alone_reason : List Text → List Text → Option Reason
alone_reason before rest = if length before == 0 && length rest == 0 then None else Some Alone

-- `--`, if the program knows it: the words after it are names of files, at least one
abbrev pub is_file_mark : CommandLine → Text → Bool
is_file_mark c word = bytes_eq word (codes "--") && c.is_word word

abbrev pub files_reason : List Text → Option Reason
files_reason rest = if length rest == 0 then Some NoValue else None

-- why a word that is no value cannot be taken, after `before` and before `rest`
abbrev pub reason_at : CommandLine → Bool → List Text → Text → List Text → Option Reason
reason_at c has_word before word rest =
    if is_help word then Some Help
    else (if is_alone c word then alone_reason before rest
    else (if is_file_mark c word then files_reason rest
    else (if is_dashed word then option_reason c (c.takes_value (option_in word)) before (option_in word) (value_in word) rest
    else word_reason c has_word word)))

-- a value has to follow this word
abbrev pub is_open : Option Bool → Option Text → Bool
is_open (Some true) None = true
is_open takes value = false

abbrev pub wants_value : CommandLine → Text → Bool
wants_value c word = is_dashed word && is_open (c.takes_value (option_in word)) (value_in word)

-- 3. The first fault of all words

abbrev pub fault_or : ℕ → Option Reason → Option WordFault → Option WordFault
fault_or place None later = later
fault_or place (Some reason) later = Some (record { place = place; reason = reason })

-- the first fault after the words `before`, which are taken: `has_word`, if any of them is no option; `is_value`, if the next word is a value; names of files
-- are taken as they are
unfoldable pub fault_from : CommandLine → List Text → Bool → Bool → List Text → Option WordFault
fault_from c before has_word is_value [] = None
fault_from c before has_word true (w ∷ rest) = fault_from c (before ++ w ∷ []) has_word false rest
fault_from c before has_word false (w ∷ rest) =
    fault_or (length before) (reason_at c has_word before w rest)
    (if is_file_mark c w then None
    else fault_from c (before ++ w ∷ []) (has_word || not (is_dashed w)) (wants_value c w) rest)

-- the required option is not given
abbrev pub missing : Option Text → List Text → Option WordFault
missing None words = None
missing (Some option) words = if is_given option words then None else Some (record { place = length words; reason = Missing })

abbrev pub otherwise : Option WordFault → Option WordFault → Option WordFault
otherwise None later = later
otherwise (Some fault) later = Some fault

abbrev pub first_fault : CommandLine → List Text → Option WordFault
first_fault c words = otherwise (fault_from c [] false false words) (missing c.required words)

-- 4. The word beside the options

-- the first word that is neither an option nor a value, nor the name of a file; `is_value` if the next word is a value
unfoldable pub word_from : CommandLine → Bool → List Text → Option Text
word_from c is_value [] = None
word_from c true (w ∷ rest) = word_from c false rest
word_from c false (w ∷ rest) =
    if is_file_mark c w then None
    else (if is_dashed w then word_from c (wants_value c w) rest else Some w)

abbrev pub word_beside : CommandLine → List Text → Option Text
word_beside c words = word_from c false words
