use Rattle.unit_timing.proofs.ArrivalLemmas.{arrived_law}
use Rattle.unit_timing.proofs.arrived.due_units.Goals as goal

pub returns : goal.returns
returns c = arrived_law
