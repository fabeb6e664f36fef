use Rattle.unit_timing.proofs.PlanLemmas.{program_switch_law}
use Rattle.unit_timing.proofs.plans.program_switch.Goals as goal

pub returns : goal.returns
returns c = program_switch_law
