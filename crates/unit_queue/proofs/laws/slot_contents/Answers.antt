use Rattle.unit_queue.proofs.laws.slot_contents.Goals as goal
use Rattle.unit_queue.proofs.SentPlaces.{content_law}

pub returns : goal.returns
returns c = content_law
