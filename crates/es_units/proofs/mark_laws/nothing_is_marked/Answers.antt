use Rattle.es_units.proofs.MarkedFindings.{nothing_marked}
use Rattle.es_units.proofs.mark_laws.nothing_is_marked.Goals as goal

pub returns : goal.returns
returns c = nothing_marked
