use Rattle.std.proofs.Common.{◌≤◌, arith}
use Rattle.word_faults.specs.GivenOptions.{greatest_by}
use Rattle.word_faults.specs.OptionRows.{kind_named}
use Rattle.tsjob_cli.proofs.arguments.limit_in.Goals as goal

pub overflow_cast-pcr_limit : goal.overflow_cast-pcr_limit
unfolding kind_named greatest_by
overflow_cast-pcr_limit c = let h : c.in_ok-pcr_limit.field-0 ≤ 100 = c.in_ok-pcr_limit.ensures.upper in omega arith
