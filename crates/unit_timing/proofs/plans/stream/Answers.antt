use Rattle.unit_timing.proofs.PlanLemmas.{stream_law}
use Rattle.unit_timing.proofs.plans.stream.Goals as goal

pub returns : goal.returns
returns c = stream_law
