use Rattle.word_faults.specs.GivenOptions.{greatest_by, lowest_by}
use Rattle.word_faults.specs.OptionRows.{kind_named}
use Rattle.tsmux_cli.proofs.request.monitor_request.Goals as goal

pub monitor_of-requires-clause-lower : goal.monitor_of-requires-clause-lower
unfolding kind_named lowest_by
monitor_of-requires-clause-lower c = c.number_of-rate.ensures.lower

pub monitor_of-requires-clause-upper : goal.monitor_of-requires-clause-upper
unfolding kind_named greatest_by
monitor_of-requires-clause-upper c = c.number_of-rate.ensures.upper

pub monitor_of-requires-clause-limit : goal.monitor_of-requires-clause-limit
unfolding kind_named greatest_by
monitor_of-requires-clause-limit c = c.number_of-pcr_limit.ensures.upper
