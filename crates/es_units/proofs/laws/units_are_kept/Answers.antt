use Rattle.es_units.proofs.laws.units_are_kept.Goals as goal
use Rattle.es_units.proofs.KeptDeclarations.{units_kept}

pub returns : goal.returns
returns c = units_kept
