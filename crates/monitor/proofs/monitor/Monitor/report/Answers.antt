use Rattle.std.proofs.Common.{◌∙◌}
use Rattle.monitor.proofs.ReportParts.{reported}
use Rattle.monitor.proofs.monitor.Monitor.report.Goals as goal

pub returns : goal.returns
returns g c =
    let monitor = c.self.inside in
    c.new.ensures
    ∙ reported c.args.self.now monitor.demux monitor.packets monitor.seen monitor.found c.in_ok-pids.pids.items c.in_ok-faults.faults.items
    c.counts-2.result.now.entries c.counts.result.now.entries c.self.view_is c.in_ok-pids.ensures c.counts-2.ensures c.counts.ensures c.in_ok-faults.ensures
