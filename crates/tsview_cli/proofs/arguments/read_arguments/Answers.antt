use Rattle.std.proofs.Common.{◌≡◌, List, Option, ap, refl, subst}
use Rattle.std.specs.Prelude.{IfOk, option_and_then}
use Rattle.clap.specs.Words.{Row}
use Rattle.word_faults.specs.GivenOptions.{with_options}
use Rattle.tsview_cli.specs.Arguments.{asked_of}
use Rattle.tsview_cli.proofs.arguments.read_arguments.Goals as goal

pub given_options-requires : goal.given_options-requires
unfolding with_options
given_options-requires c = refl

pub returns-in-Some : goal.returns-in-Some
returns-in-Some c =
    subst (λ (given : Option (List Row)). IfOk c.asked_of.result (λ asked. asked ≡ option_and_then asked_of given))
    (rw c.in-Some.is at c.in_ok-matches.ensures) c.asked_of.ensures

pub returns-in-None : goal.returns-in-None
returns-in-None c = ap (option_and_then asked_of) (rw c.in-None.is at c.in_ok-matches.ensures)
