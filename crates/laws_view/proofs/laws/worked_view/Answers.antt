use Rattle.laws_view.proofs.WorkedView.{worked_view}
use Rattle.laws_view.proofs.laws.worked_view.Goals as goal

pub returns : goal.returns
returns c = worked_view
