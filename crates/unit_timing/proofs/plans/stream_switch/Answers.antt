use Rattle.unit_timing.proofs.PlanLemmas.{stream_switch_law}
use Rattle.unit_timing.proofs.plans.stream_switch.Goals as goal

pub returns : goal.returns
returns c = stream_switch_law
