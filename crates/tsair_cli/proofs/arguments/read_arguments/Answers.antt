use Rattle.std.proofs.Common.{◌∙◌, ap, refl}
use Rattle.std.specs.Prelude.{option_and_then}
use Rattle.word_faults.specs.GivenOptions.{with_options}
use Rattle.tsair_cli.specs.Arguments.{options_of}
use Rattle.tsair_cli.proofs.arguments.read_arguments.Goals as goal

pub given_options-requires : goal.given_options-requires
unfolding with_options
given_options-requires c = refl

pub returns-in-Some : goal.returns-in-Some
returns-in-Some c = c.options_of.ensures ∙ ap (option_and_then options_of) (rw c.in-Some.is at c.in_ok-matches.ensures)

pub returns-in-None : goal.returns-in-None
returns-in-None c = ap (option_and_then options_of) (rw c.in-None.is at c.in_ok-matches.ensures)
