use Rattle.laws_view.proofs.Between.{between_law}
use Rattle.laws_view.proofs.arrival_laws.references.Goals as goal

pub returns : goal.returns
returns c = between_law
