use Rattle.capture.proofs.SyncParts.{in_step_is}
use Rattle.capture.proofs.laws.in_step_as_it_is.Goals as goal

pub returns : goal.returns
returns c = in_step_is
