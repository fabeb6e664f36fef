use Rattle.std.proofs.Common.{refl}
use Rattle.devices.proofs.Performances.{unread}
use Rattle.tsjob_cli.specs.Explaining.{ExplainLeads}
use Rattle.tsjob_cli.proofs.explained_input.explain_input.Goals as goal

pub returns-in-Err : goal.returns-in-Err
returns-in-Err g c = unread ExplainLeads _ _ _ _ c.in-Err.halt c.in-Err.ensures refl c.report_halt.ensures.reports c.report_halt.ensures.status
