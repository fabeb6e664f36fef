use Rattle.slot_contents.proofs.Runs.{run_indices}
use Rattle.slot_contents.proofs.run_laws.run_indices.Goals as goal

pub returns : goal.returns
returns c = run_indices
