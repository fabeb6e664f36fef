use Rattle.plan_maker.proofs.ReasonProofs.{reason_law}
use Rattle.plan_maker.proofs.reason.no_plan_serves.Goals as goal

pub returns : goal.returns
returns c = reason_law
