-- The options of the program, by their table, and its usage.
use Rattle.std.specs.Prelude.{[], ◌∷◌, ◌++◌, List, ℕ, None, Some, codes, map}
use Rattle.word_faults.specs.CommandLine.{CommandLine, Text}
use Rattle.word_faults.specs.KnownWords.{known_by}
use Rattle.word_faults.specs.OptionRows.{OptionRow, constant_view}
use Rattle.word_faults.specs.OptionUsage.{usage_by}
use Rattle.tsremux_cli.specs.declared.options.TheConstants.{HAND_OPTIONS, OPTIONS}

abbrev pub options : List OptionRow
options = map constant_view OPTIONS

-- options, and names of files after `--`
abbrev pub known_words : CommandLine
known_words = known_by options (codes "--" ∷ []) (codes "-V" ∷ []) None

-- the options of a service by hand: its description has to be given, and no names of files
abbrev pub hand_options : List OptionRow
hand_options = map constant_view HAND_OPTIONS

abbrev pub hand_words : CommandLine
hand_words = known_by hand_options [] (codes "-V" ∷ []) (Some (codes "--description"))

-- the lines before the options, and a line for each option
abbrev pub usage_front : Text
usage_front =
    codes "usage: tsremux [OPTIONS] [FILE..|-] -o OUT\n"
    ++ (codes "       tsremux [OPTIONS] [FILE..|-] > OUT\n" ++ codes "       tsremux --description FILE [--plan FILE] [--records FILE] -o OUT\n")

abbrev pub usage_text : List ℕ
usage_text = usage_by usage_front options
