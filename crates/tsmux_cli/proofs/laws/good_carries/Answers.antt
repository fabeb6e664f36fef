use Rattle.tsmux_cli.proofs.GoodCarries.{good_carries}
use Rattle.tsmux_cli.proofs.laws.good_carries.Goals as goal

pub returns : goal.returns
returns c = good_carries
