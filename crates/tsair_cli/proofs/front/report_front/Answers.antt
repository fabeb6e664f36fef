use Rattle.tsair_cli.specs.Fronts.{front_outcome}
use Rattle.tsair_cli.proofs.front.report_front.Goals as goal

pub returns-in-Fault-Unended-clause-report : goal.returns-in-Fault-Unended-clause-report
unfolding front_outcome
returns-in-Fault-Unended-clause-report g c = rw (c.in-Fault-Unended.is, c.in-Fault-Unended.field-0-is) c.report_text-in-Fault-Unended.ensures
