use Rattle.laws_run.proofs.OfPids.{found_in_order}
use Rattle.laws_run.proofs.pid_laws.found_in_order.Goals as goal

pub returns : goal.returns
returns c = found_in_order
