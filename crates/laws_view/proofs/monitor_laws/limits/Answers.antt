use Rattle.laws_view.proofs.Limits.{monitor_limits, tsview_limits}
use Rattle.laws_view.proofs.monitor_laws.limits.Goals as goal

pub returns-clause-monitor : goal.returns-clause-monitor
returns-clause-monitor c = monitor_limits

pub returns-clause-tsview : goal.returns-clause-tsview
returns-clause-tsview c = tsview_limits
