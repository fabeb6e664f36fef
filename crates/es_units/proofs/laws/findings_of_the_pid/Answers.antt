use Rattle.es_units.proofs.laws.findings_of_the_pid.Goals as goal
use Rattle.es_units.proofs.CarriedUnits.{same_units}

pub returns : goal.returns
returns c = same_units
