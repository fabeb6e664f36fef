use Rattle.stamp_repair.proofs.OtherPids.{others_stay}
use Rattle.stamp_repair.proofs.text_laws.others_stay.Goals as goal

pub returns : goal.returns
returns c = others_stay
