use Rattle.unit_timing.proofs.PlanLemmas.{deadline_switch_law}
use Rattle.unit_timing.proofs.plans.deadline_switch.Goals as goal

pub returns : goal.returns
returns c = deadline_switch_law
