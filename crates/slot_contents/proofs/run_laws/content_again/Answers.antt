use Rattle.slot_contents.proofs.Runs.{content_again}
use Rattle.slot_contents.proofs.run_laws.content_again.Goals as goal

pub returns : goal.returns
returns c = content_again
