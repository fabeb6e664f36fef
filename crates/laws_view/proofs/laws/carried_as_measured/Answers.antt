use Rattle.laws_view.proofs.AsMeasured.{as_measured_law}
use Rattle.laws_view.proofs.laws.carried_as_measured.Goals as goal

pub returns : goal.returns
returns c = as_measured_law
