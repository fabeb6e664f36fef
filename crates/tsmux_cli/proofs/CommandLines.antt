-- The command line is of the kind for which `clap` documents its result.
use Rattle.std.proofs.Common.{◌≡◌, true, List, refl, sym, subst, Result, Ok, Err}
use Rattle.std.specs.Prelude.{IfOk}
use Rattle.clap.specs.Words.{App, FailsBy, HasMatchesOf, Text, fault_of, is_simple, is_simple_and_free, subcommand_of, subcommand_rows_of}
use Rattle.clap.specs.declared.error.Error.{Error}
use Rattle.clap.specs.declared.parser.matches.ArgMatches.{ArgMatches}
use Rattle.word_faults.specs.GivenOptions.{with_options}
use Rattle.tsmux_cli.specs.CommandLine.{tsmux_app}

pub simple : is_simple tsmux_app ≡ true
unfolding tsmux_app with_options
simple = refl

pub simple_and_free : is_simple_and_free tsmux_app ≡ true
unfolding tsmux_app with_options
simple_and_free = refl

pub named : {E : Type 0} (app : App) (words : List Text) (r : Result ArgMatches E) → is_simple app ≡ true → IfOk r (HasMatchesOf app words) →
    IfOk r (λ m. subcommand_rows_of m ≡ subcommand_of app words)
named app words (Ok m) s h = (h s).1
named app words (Err e) s h = tt

pub faulty : {T : Type 0} (app : App) (words : List Text) (r : Result T Error) → app ≡ tsmux_app →
    (is_simple_and_free app ≡ true → FailsBy (fault_of app words) r) →
    FailsBy (fault_of tsmux_app words) r
faulty app words r e h = subst (λ (a : App). FailsBy (fault_of a words) r) e (h (subst (λ (a : App). is_simple_and_free a ≡ true) (sym e) simple_and_free))
