use Rattle.laws_run.proofs.CleanPackets.{sections_are_clean}
use Rattle.laws_run.proofs.pid_laws.sections_are_clean.Goals as goal

pub returns : goal.returns
returns c = sections_are_clean
