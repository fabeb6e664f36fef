use Rattle.std.proofs.Common.{◌≤◌, arith}
use Rattle.word_faults.specs.GivenOptions.{greatest_by}
use Rattle.word_faults.specs.OptionRows.{kind_named}
use Rattle.tsview_cli.proofs.arguments.options_of.Goals as goal

pub overflow_cast-window : goal.overflow_cast-window
unfolding kind_named greatest_by
overflow_cast-window c = let h : c.in_ok-window.field-0 ≤ 3600000 = c.in_ok-window.ensures.upper in omega arith
