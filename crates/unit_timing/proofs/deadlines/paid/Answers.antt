use Rattle.unit_timing.proofs.DeadlineLemmas.{deadline_law}
use Rattle.unit_timing.proofs.deadlines.paid.Goals as goal

pub returns : goal.returns
returns c = deadline_law
