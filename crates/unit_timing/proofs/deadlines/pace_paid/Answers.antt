use Rattle.unit_timing.proofs.PaidAllowances.{pace_paid_law}
use Rattle.unit_timing.proofs.deadlines.pace_paid.Goals as goal

pub returns : goal.returns
returns c = pace_paid_law
