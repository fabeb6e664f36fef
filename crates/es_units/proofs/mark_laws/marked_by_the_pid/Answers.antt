use Rattle.es_units.proofs.MarkedFindings.{marked_by_pid}
use Rattle.es_units.proofs.mark_laws.marked_by_the_pid.Goals as goal

pub returns : goal.returns
returns c = marked_by_pid
