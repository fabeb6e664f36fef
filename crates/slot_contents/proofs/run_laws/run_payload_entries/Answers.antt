use Rattle.slot_contents.proofs.Counts.{run_payload_entries}
use Rattle.slot_contents.proofs.run_laws.run_payload_entries.Goals as goal

pub returns : goal.returns
returns c = run_payload_entries
