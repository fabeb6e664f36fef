use Rattle.unit_timing.proofs.PaidAllowances.{groups_paid_law}
use Rattle.unit_timing.proofs.deadlines.groups_paid.Goals as goal

pub returns : goal.returns
returns c = groups_paid_law
