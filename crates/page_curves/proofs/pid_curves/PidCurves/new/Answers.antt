use Rattle.page_curves.proofs.Kept.{no_curves}
use Rattle.page_curves.proofs.pid_curves.PidCurves.new.Goals as goal

pub returns : goal.returns
returns c = no_curves c.new.result.items c.new.ensures.items
