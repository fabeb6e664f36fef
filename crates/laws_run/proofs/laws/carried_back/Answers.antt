use Rattle.laws_run.proofs.AcceptedFit.{accepted_units_fit}
use Rattle.laws_run.proofs.CarryBack.{carried_back}
use Rattle.laws_run.proofs.laws.carried_back.Goals as goal

pub returns-clause-whole : goal.returns-clause-whole
returns-clause-whole c = carried_back

pub returns-clause-accepted : goal.returns-clause-accepted
returns-clause-accepted c = accepted_units_fit
