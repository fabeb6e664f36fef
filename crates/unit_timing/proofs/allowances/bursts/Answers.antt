use Rattle.unit_timing.proofs.Bursting.{burst_law}
use Rattle.unit_timing.proofs.allowances.bursts.Goals as goal

pub returns : goal.returns
returns c = burst_law
