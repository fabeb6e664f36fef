use Rattle.unit_timing.proofs.DeadlineLemmas.{stretch_law}
use Rattle.unit_timing.proofs.deadlines.stretches.Goals as goal

pub returns : goal.returns
returns c = stretch_law
