-- The report of a usage error, and the output of `--version`.
use Rattle.std.specs.Prelude.{◌≡◌, ◌⊎◌, ◌+◌, ◌==◌, ◌&&◌, ◌||◌, ℕ, Bool, true, false, not, if◌then◌else◌, List, [], ◌∷◌, ◌++◌, length, Option, Some, None, codes, slice_get, unwrap_or}
use Rattle.std.specs.Str.{bytes_eq}
use Rattle.devices.specs.Devices.{Device, HasFailed, IsClean, IsUntouched, Takes}
use Rattle.devices.specs.Lines.{Reports, Stopped}
use Rattle.devices.specs.Outcomes.{halt_line}
use Rattle.devices.specs.Runs.{LacksMemory}
use Rattle.devices.specs.Usage.{ReportsUsage}
use Rattle.devices.specs.declared.halt.Halt.TheVariants.{Write}
use Rattle.word_faults.specs.CommandLine.{CommandLine, Text}
use Rattle.word_faults.specs.Hints.{meant_line}
use Rattle.word_faults.specs.WordFaults.{first_fault, option_in}
use Rattle.word_faults.specs.declared.word_fault.WordFault.{WordFault}
use Rattle.word_faults.specs.declared.word_fault.Reason.{Reason}
use Rattle.word_faults.specs.declared.word_fault.Reason.TheVariants.{Unknown, Twice, NoValue, BadValue, BadNextWord, Alone, Apart, Missing, Help}

-- 1. The line of a fault, and the usage after it

abbrev pub word_at : List Text → ℕ → Text
word_at words place = unwrap_or (slice_get words place) []

-- the line of a fault: by the word at a place, the next word, the option that has to be given, and the option that the first word excludes
unfoldable pub reason_line : Reason → Text → Text → Text → Text → Text
reason_line Unknown word next required other = word ++ codes ": not known\n"
reason_line Twice word next required other = word ++ codes ": given twice\n"
reason_line NoValue word next required other = word ++ codes ": no value\n"
reason_line BadValue word next required other = word ++ codes ": not a value of this option\n"
reason_line BadNextWord word next required other = word ++ codes " " ++ next ++ codes ": not a value of this option\n"
reason_line Alone word next required other = word ++ codes ": takes no options and no other word\n"
reason_line Apart word next required other = word ++ codes ": not beside " ++ other ++ codes "\n"
reason_line Missing word next required other = required ++ codes ": not given\n"
reason_line Help word next required other = []

abbrev pub asks_help : Reason → Bool
asks_help Help = true
asks_help reason = false

unfoldable pub fault_line : CommandLine → List Text → Option WordFault → Text
fault_line c words None = []
fault_line c words (Some f) =
    reason_line f.reason (word_at words f.place) (word_at words (f.place + 1)) (unwrap_or c.required []) (c.apart (option_in (word_at words f.place)))

-- a line names the fault: not if there is none, and not if it is a call for help
abbrev pub has_line : Option WordFault → Bool
has_line None = false
has_line (Some f) = not (asks_help f.reason)

-- how to ask a program for its usage
abbrev pub help_line : Text → Text
help_line program = codes "usage: " ++ (program ++ codes " --help\n")

-- the report if the command line has a word that can't be read as text
abbrev pub unreadable_text : Text → Text
unreadable_text program = codes "a word is not UTF-8\n" ++ help_line program

-- after the line of a fault, how to ask for the usage; without such a line, the usage
unfoldable pub more_text : Text → Text → Option WordFault → Text
more_text program usage fault = if has_line fault then help_line program else usage

-- the first word that cannot be taken and why, and how to ask for the usage; the usage, if no word is at fault or one asks for it
abbrev pub usage_report : Text → CommandLine → List Text → Text → Text
usage_report program c words usage = fault_line c words (first_fault c words) ++ more_text program usage (first_fault c words)

-- two hyphens first, or a hyphen and one byte after it
abbrev pub has_option_form : Text → Bool
has_option_form (x ∷ y ∷ rest) = x == 45 && (y == 45 || length rest == 0)
has_option_form word = false

-- a word that may be the name of a file after `--`
abbrev pub names_files : CommandLine → Text → Bool
names_files c word = c.is_word (codes "--") && not (has_option_form word)

-- what to type instead: what the option takes, or the word that may be meant
unfoldable pub hint_by : CommandLine → Reason → Text → Text
hint_by c Unknown word = meant_line (c.near word) (names_files c word) word
hint_by c NoValue word = c.takes (option_in word)
hint_by c BadValue word = c.takes (option_in word)
hint_by c BadNextWord word = c.takes (option_in word)
hint_by c reason word = []

unfoldable pub hint_line : CommandLine → List Text → Option WordFault → Text
hint_line c words None = []
hint_line c words (Some f) = hint_by c f.reason (word_at words f.place)

-- the same with what to type instead
abbrev pub hinted_report : Text → CommandLine → List Text → Text → Text
hinted_report program c words usage =
    fault_line c words (first_fault c words) ++ (hint_line c words (first_fault c words) ++ more_text program usage (first_fault c words))

-- the first word that cannot be taken asks for help
abbrev pub is_help_fault : Option WordFault → Bool
is_help_fault None = false
is_help_fault (Some f) = asks_help f.reason

abbrev pub wants_help : CommandLine → List Text → Bool
wants_help c words = is_help_fault (first_fault c words)

-- 2. The version

-- the one word `--version`
abbrev pub is_version : List Text → Bool
is_version (w ∷ []) = bytes_eq w (codes "--version")
is_version words = false

-- the same by its short name
abbrev pub asks_version : List Text → Bool
asks_version (w ∷ []) = bytes_eq w (codes "--version") || bytes_eq w (codes "-V")
asks_version words = false

-- the program, its version, and the logic in which it is proved
abbrev pub version_text : Text → Text
version_text program = program ++ codes " 1.0, logic dac8208d650f15bf\n"

-- nothing is read, and this text is the output
pub record Printed (text : Text) (input output faults : Device) (status : ℕ) : Type 0 where
  pub unread : IsUntouched input
  pub written : Takes output text
  pub clean : IsClean output
  pub silent : IsUntouched faults
  pub status_is : status ≡ 0

-- nothing is read, and the writer failed within the text
pub record FailsToPrint (text : Text) (input output faults : Device) (status : ℕ) : Type 0 where
  pub unread : IsUntouched input
  pub stopped : Stopped text output
  pub failed : HasFailed output
  pub reports : Reports faults (halt_line Write)
  pub status_is : status ≡ 3

abbrev pub Prints : Text → Device → Device → Device → ℕ → Type 0
Prints text input output faults status =
    Printed text input output faults status ⊎ (FailsToPrint text input output faults status ⊎ LacksMemory input output faults status)

-- 3. The answer of a program that people type, to words that ask for none of its work

-- the version alone, and help, are answers on standard output; otherwise the report is the first word that cannot be taken, what to type instead, and how to ask
-- for the usage
pub record AnswersWords (program : Text) (c : CommandLine) (words : List Text) (usage : Text) (input output faults : Device) (status : ℕ) : Type 0 where
  pub version : asks_version words ≡ true → Prints (version_text program) input output faults status
  pub help : asks_version words ≡ false → wants_help c words ≡ true → Prints usage input output faults status
  pub fault : asks_version words ≡ false → wants_help c words ≡ false →
      ReportsUsage (hinted_report program c words usage) input output faults status ⊎ LacksMemory input output faults status
