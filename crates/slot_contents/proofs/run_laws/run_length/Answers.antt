use Rattle.slot_contents.proofs.Runs.{run_length}
use Rattle.slot_contents.proofs.run_laws.run_length.Goals as goal

pub returns : goal.returns
returns c = run_length
