-- The program for words as people type them: files without `--` before them, short names of options, a file that is written.
use Rattle.std.specs.Prelude.{◌≡◌, ◌⊎◌, ℕ, ◌==◌, ◌&&◌, ◌||◌, not, Bool, true, false, List, ◌++◌, length, Option, Some, None, if◌then◌else◌, codes, map}
use Rattle.std.specs.Prelude.{option_and_then}
use Rattle.std.specs.Str.{bytes_eq}
use Rattle.devices.specs.Devices.{Device, IsUntouched, Port, between}
use Rattle.devices.specs.Files.{Files, IsAsKnown}
use Rattle.devices.specs.Lines.{Reports}
use Rattle.devices.specs.Runs.{LacksMemory}
use Rattle.tsjob_cli.specs.Reports.{terminal_line}
use Rattle.devices.specs.declared.files.FileFault.{FileFault}
use Rattle.devices.specs.Saving.{AreNone, HasNoFile, SavesFile}
use Rattle.word_faults.specs.CommandLine.{CommandLine, Text}
use Rattle.word_faults.specs.Commands as commands
use Rattle.word_faults.specs.SortedWords.{are_taken, value_given, words_without}
use Rattle.word_faults.specs.UsageReport.{AnswersWords}
use Rattle.tsjob_cli.specs.Explaining.{ExplainsFiles}
use Rattle.tsjob_cli.specs.FileWords.{file_words, marked_names, option_words}
use Rattle.tsjob_cli.specs.NextTexts.{AnswersNext, next_asked}
use Rattle.tsjob_cli.specs.MadeJobs.{MakesJob, RunsJob, is_kept}
use Rattle.tsjob_cli.specs.Options.{explain_words, known_for, next_words, sorting_words, usage_text}
use Rattle.tsjob_cli.specs.declared.command.TheConstants.{SHORT_NAMES}

-- 1. The words

abbrev pub output_word : Text
output_word = codes "--output"

abbrev pub shorts : List commands.Short
shorts = map commands.constant_short SHORT_NAMES

-- words ask for an explanation, or about new texts; all other words are known as for `run`
abbrev pub is_explain_word : Option Text → Bool
is_explain_word None = false
is_explain_word (Some w) = bytes_eq w (codes "explain")

abbrev pub is_explained : List Text → Bool
is_explained words = is_explain_word (commands.command_of sorting_words words)

abbrev pub is_next_word : Option Text → Bool
is_next_word None = false
is_next_word (Some w) = bytes_eq w (codes "next")

abbrev pub is_next : List Text → Bool
is_next words = is_next_word (commands.command_of sorting_words words)

-- with long names of options: the subcommand, the options, then the names of files after `--`; the options are those of the subcommand
abbrev pub sorting_for : List Text → CommandLine
sorting_for words = if is_next words then next_words else sorting_words

abbrev pub sorted_by : List Text → List Text
sorted_by long = commands.sorted_command (sorting_for long) long

abbrev pub sorted_words : List Text → List Text
sorted_words words = sorted_by (commands.long_words shorts words)

abbrev pub known_words : List Text → CommandLine
known_words words = if is_explained words then explain_words else (if is_next words then next_words else known_for words)

-- the file that is written; none if it is standard output
abbrev pub unless_output : Text → Option Text
unless_output name = if bytes_eq name (codes "-") then None else Some name

abbrev pub output_file : List Text → Option Text
output_file words = option_and_then unless_output (value_given output_word (option_words words))

-- the words without its option; a name of a file is no option
abbrev pub words_but_output : List Text → List Text
words_but_output words = words_without output_word (option_words words) ++ marked_names words

-- the output is text
abbrev pub is_text_word : Option Text → Bool
is_text_word None = false
is_text_word (Some w) = bytes_eq w (codes "describe") || (bytes_eq w (codes "why") || bytes_eq w (codes "explain"))

abbrev pub is_text : List Text → Bool
is_text words = is_text_word (commands.command_of sorting_words words)

-- 2. The output

-- the known facts about written files: why a file can't be created, or that it can; whether a new file can be given its
-- name; and whether standard output is a terminal
pub record Outputs : Type 0 where
  pub creates : List ℕ → Option (Option FileFault)
  pub keeps : List ℕ → Option Bool
  pub shows : Option Bool

abbrev pub outputs_of : (List ℕ → Option (Option FileFault)) → (List ℕ → Option Bool) → Option Bool → Outputs
outputs_of creates keeps shows = record { creates = creates; keeps = keeps; shows = shows }

-- the report for a terminal: it advises `-o`, or `>` for the units of a running stream, since `-o` is refused beside `--stream`
abbrev pub stream_word : Text
stream_word = codes "--stream"

abbrev pub terminal_by : Option Text → List ℕ
terminal_by None = terminal_line
terminal_by (Some name) = codes "standard output is a terminal: name a file by > FILE\n"

abbrev pub terminal_text : List Text → List ℕ
terminal_text words = terminal_by (value_given stream_word (option_words words))

-- no packets or units go to a terminal
pub record IsTerminal (shows : Option Bool) (words : List Text) (input output faults : Device) (status : ℕ) : Type 0 where
  pub binary : is_text words ≡ false
  pub shown : IsAsKnown shows true
  pub unread : IsUntouched input
  pub unwritten : IsUntouched output
  pub reports : Reports faults (terminal_text words)
  pub status_is : status ≡ 2

-- the output is text, or does not go to a terminal
abbrev pub MayBeShown : Option Bool → List Text → Type 0
MayBeShown shows words = (is_text words ≡ true) ⊎ IsAsKnown shows false

abbrev pub ToOutput : Option Bool → List Text → Files → Device → Device → Device → ℕ → Type 0
ToOutput shows words files input output faults status =
    IsTerminal shows words input output faults status ⊎ (MayBeShown shows words × RunsJob words files input output faults status)

-- the output is written to a new file, if it is to be kept
abbrev pub Saves : Option Bool → Option (List ℕ) → Text → List ℕ → ℕ → Device → ℕ → Type 0
Saves keeps known name bytes made faults status =
    ((is_kept bytes made ≡ false) × ((status ≡ made) × IsUntouched faults))
    ⊎ ((is_kept bytes made ≡ true) × SavesFile keeps known name bytes made faults status)

pub record MakesFile (keeps : Option Bool) (known : Option (List ℕ)) (name : Text) (words : List Text) (files : Files) (input faults : Device)
    (status : ℕ) : Type 0 where
  pub bytes : List ℕ
  pub made : ℕ
  -- the second writer between both
  pub so_far : Port
  pub makes : MakesJob words files input (between faults.before so_far) bytes made
  pub saves : Saves keeps known name bytes made (between so_far faults.after) status

-- the file is created before anything is read
pub record WritesFile (creates : Option (Option FileFault)) (keeps : Option Bool) (name : Text) (words : List Text) (files : Files) (input faults : Device)
    (status : ℕ) : Type 0 where
  pub created : IsAsKnown creates None
  pub known : Option (List ℕ)
  pub empty : AreNone known
  pub makes : MakesFile keeps known name words files input faults status

abbrev pub ToFile : Option (Option FileFault) → Option Bool → Text → List Text → Files → Device → Device → ℕ → Type 0
ToFile creates keeps name words files input faults status =
    WritesFile creates keeps name words files input faults status ⊎ HasNoFile creates name input faults status

abbrev pub WritesTo : Outputs → Option Text → List Text → Files → Device → Device → Device → ℕ → Type 0
WritesTo outputs None words files input output faults status = ToOutput outputs.shows words files input output faults status
WritesTo outputs (Some name) words files input output faults status =
    ToFile (outputs.creates name) (outputs.keeps name) name words files input faults status × IsUntouched output

-- memory runs out for the words
abbrev pub LacksWords : Device → Device → Device → ℕ → Type 0
LacksWords input output faults status = LacksMemory input output faults status

abbrev pub PerformsWords : Outputs → List Text → Files → Device → Device → Device → ℕ → Type 0
PerformsWords outputs words files input output faults status =
    WritesTo outputs (output_file words) (words_but_output words) files input output faults status ⊎ LacksWords input output faults status

-- an answer about new texts, an explanation of files, or the effect of `run`
abbrev pub explains_files : List Text → Bool
explains_files words = is_explained words && not (length (file_words words) == 0)

pub record Answers (outputs : Outputs) (words : List Text) (files : Files) (input output faults : Device) (status : ℕ) : Type 0 where
  pub next : is_next words ≡ true →
      AnswersNext files outputs.creates outputs.keeps (next_asked (option_words words) (output_file words)) (file_words words) output faults status
      × IsUntouched input
  pub explains : is_next words ≡ false → explains_files words ≡ true → ExplainsFiles files (file_words words) output faults status × IsUntouched input
  pub performs : is_next words ≡ false → explains_files words ≡ false → PerformsWords outputs words files input output faults status

-- 3. All of it, of sorted words

pub record Commands (outputs : Outputs) (words : List Text) (files : Files) (input output faults : Device) (status : ℕ) : Type 0 where
  pub taken : are_taken (known_words words) words ≡ true →
      Answers outputs words files input output faults status ⊎ LacksWords input output faults status
  pub other : are_taken (known_words words) words ≡ false →
      AnswersWords (codes "tsjob") (known_words words) words usage_text input output faults status ⊎ LacksWords input output faults status
