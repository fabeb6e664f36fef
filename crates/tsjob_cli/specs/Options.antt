-- The options and subcommands of the program, by their table, and its usage.
use Rattle.std.specs.Prelude.{ℕ, ◌&&◌, Bool, true, false, not, List, [], ◌∷◌, ◌++◌, Option, Some, None, codes, map}
use Rattle.word_faults.specs.CommandLine.{CommandLine, Text}
use Rattle.word_faults.specs.KnownWords.{known_but, known_by}
use Rattle.word_faults.specs.OptionRows.{OptionRow, constant_view}
use Rattle.word_faults.specs.OptionUsage.{usage_by}
use Rattle.word_faults.specs.WordFaults.{word_beside}
use Rattle.job_run.specs.declared.job_arguments.Subcommand.{Subcommand}
use Rattle.job_run.specs.declared.job_arguments.Subcommand.TheVariants.{Units}
use Rattle.tsjob_cli.specs.FileMark.{has_mark}
use Rattle.tsjob_cli.specs.Subcommands.{subcommand_of}
use Rattle.tsjob_cli.specs.declared.options.TheConstants.{EXPLAIN_OPTIONS, NEXT_OPTIONS, OPTIONS}

abbrev pub options : List OptionRow
options = map constant_view OPTIONS

-- 1. The words

-- if the file of a description cannot be named, its option is unknown
abbrev pub barred_word : Bool → Option Text
barred_word true = None
barred_word false = Some (codes "--stream")

-- a subcommand, or the mark of names of files, may accompany the options
abbrev pub known_but_one : Option Text → CommandLine
known_but_one barred =
    known_but barred options (codes "describe" ∷ codes "units" ∷ codes "why" ∷ codes "explain" ∷ codes "next" ∷ codes "--" ∷ []) (codes "-V" ∷ []) None

abbrev pub known_words : Bool → CommandLine
known_words takes_stream = known_but_one (barred_word takes_stream)

-- words before they are sorted
abbrev pub sorting_words : CommandLine
sorting_words = known_words true

-- an explanation has no options; a question about new texts has those of a record
abbrev pub explain_options : List OptionRow
explain_options = map constant_view EXPLAIN_OPTIONS

abbrev pub explain_words : CommandLine
explain_words = known_by explain_options (codes "explain" ∷ codes "--" ∷ []) (codes "-V" ∷ []) None

abbrev pub next_options : List OptionRow
next_options = map constant_view NEXT_OPTIONS

abbrev pub next_words : CommandLine
next_words = known_by next_options (codes "next" ∷ codes "--" ∷ []) (codes "-V" ∷ []) None

-- the file of a description can be named with units, and with no names of files
abbrev pub is_units : Option Subcommand → Bool
is_units (Some Units) = true
is_units subcommand = false

abbrev pub takes_stream : List Text → Bool
takes_stream words = is_units (subcommand_of (word_beside (known_words true) words)) && not (has_mark words)

-- the known options for these words
abbrev pub known_for : List Text → CommandLine
known_for words = known_words (takes_stream words)

-- 2. The usage

-- the lines before the options
abbrev pub usage_front : Text
usage_front =
    codes "usage: tsjob [describe|units|why] [OPTIONS] [FILE..|-] [-o OUT]\n"
    ++ (codes "       tsjob units --stream DESCRIPTION < PACKETS > RECORDS\n"
    ++ (codes "       tsjob explain [DESCRIPTION [PLAN [RECORDS]]]\n" ++ codes "       tsjob next JOB NEW [--plan [-o FRONT]] [--at YYYY-MM-DDThh:mm:ss --to RECORD [--wait T]]\n"))

-- the usage, with a line for each option
abbrev pub usage_text : List ℕ
usage_text = usage_by usage_front options
