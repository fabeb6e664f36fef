use Rattle.std.proofs.Common.{List, ap₂}
use Rattle.std.specs.Prelude.{Option}
use Rattle.word_faults.specs.CommandLine.{Text}
use Rattle.word_faults.specs.KnownWords.{known_by}
use Rattle.word_faults.specs.OptionRows.{OptionRow}
use Rattle.tsmux_cli.specs.Options.{alone_names, subcommand_names}
use Rattle.tsmux_cli.proofs.options.known_words.Goals as goal

pub returns : goal.returns
returns c = ap₂ (λ (rows : List OptionRow) (required : Option Text). known_by rows subcommand_names alone_names required) c.options_of.ensures c.required_of.ensures
