use Rattle.unit_queue.proofs.laws.carried_units.Goals as goal
use Rattle.unit_queue.proofs.CarriedBytes.{carried_law}

pub returns : goal.returns
returns c = carried_law
