use Rattle.std.proofs.Common.{map}
use Rattle.clap.specs.Words.{app_of}
use Rattle.word_faults.specs.GivenOptions.{app_of_options}
use Rattle.word_faults.specs.OptionRows.{view}
use Rattle.word_faults.proofs.GivenOptions.{faulty, matched}
use Rattle.word_faults.proofs.option_values.matches_for.Goals as goal

pub returns-clause-ok : goal.returns-clause-ok
returns-clause-ok c =
    matched (app_of_options c.args.program.now (map view c.args.options.now)) (map (λ s. s.now) c.args.words.now) c.try_get_matches_from.result c.requires
    (rw c.in_ok-command_of.ensures at c.try_get_matches_from.ensures.matches)

pub returns-clause-fault : goal.returns-clause-fault
returns-clause-fault c =
    faulty (app_of c.in_ok-command_of.field-0) (app_of_options c.args.program.now (map view c.args.options.now)) (map (λ s. s.now) c.args.words.now)
    c.try_get_matches_from.result c.in_ok-command_of.ensures c.requires c.try_get_matches_from.ensures.kinds
