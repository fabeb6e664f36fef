use Rattle.slot_contents.proofs.Counts.{run_joined}
use Rattle.slot_contents.proofs.run_laws.run_joined.Goals as goal

pub returns : goal.returns
returns c = run_joined
