use Rattle.slot_contents.proofs.Counts.{payload_count_law}
use Rattle.slot_contents.proofs.run_laws.payload_count.Goals as goal

pub returns : goal.returns
returns c = payload_count_law
