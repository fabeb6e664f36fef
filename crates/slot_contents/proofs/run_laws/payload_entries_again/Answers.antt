use Rattle.slot_contents.proofs.Counts.{payload_entries_again}
use Rattle.slot_contents.proofs.run_laws.payload_entries_again.Goals as goal

pub returns : goal.returns
returns c = payload_entries_again
