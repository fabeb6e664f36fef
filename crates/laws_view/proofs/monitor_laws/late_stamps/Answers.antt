use Rattle.laws_view.proofs.TableFaults.{pts_law}
use Rattle.laws_view.proofs.monitor_laws.late_stamps.Goals as goal

pub returns : goal.returns
returns c = pts_law
