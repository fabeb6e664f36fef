use Rattle.unit_timing.proofs.Allowing.{allowance_law}
use Rattle.unit_timing.proofs.allowances.curves.Goals as goal

pub returns : goal.returns
returns c = allowance_law
