use Rattle.tsmux_cli.proofs.GoodRuns.{good_runs}
use Rattle.tsmux_cli.proofs.laws.good_runs.Goals as goal

pub returns : goal.returns
returns c = good_runs
