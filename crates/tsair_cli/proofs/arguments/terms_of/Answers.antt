use Rattle.std.proofs.Common.{◌≤◌, arith}
use Rattle.std.specs.Prelude.{codes}
use Rattle.clap.specs.Words.{found_of, rows_of}
use Rattle.word_faults.specs.GivenOptions.{greatest_by, number_if, number_of}
use Rattle.word_faults.specs.OptionRows.{kind_named}
use Rattle.tsair_cli.specs.Arguments.{terms_of}
use Rattle.tsair_cli.specs.Options.{options}
use Rattle.tsair_cli.proofs.AirTerms.{all_given}
use Rattle.tsair_cli.proofs.arguments.terms_of.Goals as goal

pub overflow_cast-wait : goal.overflow_cast-wait
unfolding kind_named greatest_by
overflow_cast-wait c = let h : c.in_ok-wait.field-0 ≤ 8100000 = c.in_ok-wait.ensures.upper in omega arith

pub returns : goal.returns
unfolding terms_of
returns c =
    let rows = rows_of (found_of c.args.matches.now) in
    all_given (number_of options (codes "wait") rows) (number_of options (codes "ahead") rows) (number_if options (codes "slots") rows)
    (number_if options (codes "room") rows)
    c.in_ok-wait.field-0 c.in_ok-ahead.ahead c.in_ok-slots.slots c.in_ok-room.room
    c.in_ok-wait.ensures.value c.in_ok-ahead.ensures.value c.in_ok-slots.ensures.value c.in_ok-room.ensures.value
