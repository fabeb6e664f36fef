use Rattle.word_faults.specs.GivenOptions.{greatest_by}
use Rattle.word_faults.specs.OptionRows.{kind_named}
use Rattle.tsmux_cli.proofs.OptionNumbers.{fits_pid}
use Rattle.tsmux_cli.proofs.request.carry_request.Goals as goal

pub carry_of-requires-clause-pid : goal.carry_of-requires-clause-pid
unfolding kind_named greatest_by
carry_of-requires-clause-pid c = fits_pid c.number_of-pid.result c.number_of-pid.ensures.upper
