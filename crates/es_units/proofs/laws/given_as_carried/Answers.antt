use Rattle.es_units.proofs.UnitSteps.{in_turn, are_carried, uncut_carried}
use Rattle.es_units.proofs.laws.given_as_carried.Goals as goal

pub returns-clause-in_turn : goal.returns-clause-in_turn
returns-clause-in_turn c = in_turn

pub returns-clause-carried : goal.returns-clause-carried
returns-clause-carried c = are_carried

pub returns-clause-uncut : goal.returns-clause-uncut
returns-clause-uncut c = uncut_carried
