-- The options of the program, by their table, and its usage.
use Rattle.std.specs.Prelude.{ℕ, true, List, [], ◌∷◌, None, codes, map}
use Rattle.word_faults.specs.CommandLine.{CommandLine}
use Rattle.word_faults.specs.KnownWords.{known_with}
use Rattle.word_faults.specs.OptionRows.{OptionRow, constant_view}
use Rattle.word_faults.specs.OptionUsage.{usage_by}
use Rattle.tsview_cli.specs.declared.options.TheConstants.{OPTIONS}

abbrev pub options : List OptionRow
options = map constant_view OPTIONS

-- options, and the name of a file
abbrev pub known_words : CommandLine
known_words = known_with true None options [] (codes "-V" ∷ []) None

-- a line for each option
abbrev pub usage_text : List ℕ
usage_text = usage_by (codes "usage: tsview [OPTIONS] [FILE|-] < PACKETS\n       tsview --plan < JOB\n") options
