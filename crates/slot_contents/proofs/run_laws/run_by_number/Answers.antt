use Rattle.slot_contents.proofs.Counts.{run_by_number}
use Rattle.slot_contents.proofs.run_laws.run_by_number.Goals as goal

pub returns : goal.returns
returns c = run_by_number
