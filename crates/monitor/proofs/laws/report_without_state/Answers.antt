use Rattle.monitor.proofs.StreamReport.{report_without_state}
use Rattle.monitor.proofs.laws.report_without_state.Goals as goal

pub returns : goal.returns
returns c = report_without_state
