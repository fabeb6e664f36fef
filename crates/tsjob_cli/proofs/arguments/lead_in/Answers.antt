use Rattle.std.proofs.Common.{◌≤◌, arith}
use Rattle.word_faults.specs.GivenOptions.{greatest_by}
use Rattle.word_faults.specs.OptionRows.{kind_named}
use Rattle.tsjob_cli.proofs.arguments.lead_in.Goals as goal

pub overflow_cast-lead : goal.overflow_cast-lead
unfolding kind_named greatest_by
overflow_cast-lead c = let h : c.in_ok-lead.field-0 ≤ 90000 = c.in_ok-lead.ensures.upper in omega arith
