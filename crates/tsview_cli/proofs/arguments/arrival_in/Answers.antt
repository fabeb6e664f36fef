use Rattle.word_faults.specs.GivenOptions.{greatest_by, least_by}
use Rattle.word_faults.specs.OptionRows.{kind_named}
use Rattle.tsview_cli.proofs.arguments.arrival_in.Goals as goal

pub arrival_at-requires-clause-lower : goal.arrival_at-requires-clause-lower
unfolding kind_named least_by
arrival_at-requires-clause-lower c = c.in_ok-rate.ensures.lower

pub arrival_at-requires-clause-upper : goal.arrival_at-requires-clause-upper
unfolding kind_named greatest_by
arrival_at-requires-clause-upper c = c.in_ok-rate.ensures.upper
