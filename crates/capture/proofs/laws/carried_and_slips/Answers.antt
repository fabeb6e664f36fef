use Rattle.capture.proofs.SyncParts.{carried_and_slips_are}
use Rattle.capture.proofs.laws.carried_and_slips.Goals as goal

pub returns : goal.returns
returns c = carried_and_slips_are
