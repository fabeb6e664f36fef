use Rattle.unit_timing.proofs.LateUnits.{late_law}
use Rattle.unit_timing.proofs.arrived.late_units.Goals as goal

pub returns : goal.returns
returns c = late_law
