use Rattle.unit_timing.proofs.PlanLemmas.{main_switch_law}
use Rattle.unit_timing.proofs.plans.main_switch.Goals as goal

pub returns : goal.returns
returns c = main_switch_law
