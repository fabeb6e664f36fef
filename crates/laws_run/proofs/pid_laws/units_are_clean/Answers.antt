use Rattle.laws_run.proofs.CleanPackets.{units_are_clean}
use Rattle.laws_run.proofs.pid_laws.units_are_clean.Goals as goal

pub returns : goal.returns
returns c = units_are_clean
