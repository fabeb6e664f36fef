use Rattle.std.proofs.Common.{◌≡◌, false, drop, map}
use Rattle.clap.specs.Words.{app_of}
use Rattle.clap.specs.declared.builder.command.Command.TheViews.{out-Command as fields_of}
use Rattle.word_faults.specs.GivenOptions.{with_options}
use Rattle.word_faults.specs.OptionRows.{view}
use Rattle.word_faults.proofs.option_values.with_options.Given as goal

abbrev pub invariant-loop-row : goal.invariant-loop-row
invariant-loop-row l =
    (with_options (app_of l.initial.command) (map view l.options) ≡ with_options (app_of l.command) (map view (drop l.row-index l.options)))
    × ((fields_of l.command).has_globals ≡ false)
