use Rattle.std.proofs.Common.{◌∙◌}
use Rattle.es_units.proofs.KeptDeclarations.{units_kept}
use Rattle.es_units.proofs.QueueAcceptance.{taken_one_by_one}
use Rattle.laws_job.proofs.AcceptedUnits.{none_refused}
use Rattle.laws_job.proofs.laws.accepted.Goals as goal

pub returns : goal.returns
returns c = λ made line findings units ranges are. c.room_for_all.ensures line units
    ∙ none_refused units_kept taken_one_by_one made line findings units ranges are
