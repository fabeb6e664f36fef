use Rattle.monitor.proofs.TakenPackets.{reports_if}
use Rattle.monitor.proofs.monitor.Monitor.finish.Goals as goal

pub returns : goal.returns
returns g c = reports_if (λ report. report) c.end_report-report.result c.args.self c.args.cut c.end_report-report.ensures
