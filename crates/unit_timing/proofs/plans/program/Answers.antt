use Rattle.unit_timing.proofs.PlanLemmas.{program_law}
use Rattle.unit_timing.proofs.plans.program.Goals as goal

pub returns : goal.returns
returns c = program_law
