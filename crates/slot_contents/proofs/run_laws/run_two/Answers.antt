use Rattle.slot_contents.proofs.Runs.{run_two}
use Rattle.slot_contents.proofs.run_laws.run_two.Goals as goal

pub returns : goal.returns
returns c = run_two
