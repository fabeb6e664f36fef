use Rattle.devices.specs.Devices.{Port}
use Rattle.es_feed.proofs.ReportedLines.{no_change, one_change}
use Rattle.es_feed.proofs.fed_records.report_change.Goals as goal

pub returns-in-None-clause-reports_all : goal.returns-in-None-clause-reports_all
returns-in-None-clause-reports_all g c =
    no_change c.args.lines.now.pids c.args.number
    (record { bytes = g.E.Write.contents c.args.faults.now; failed = g.E.Sink.fault_count c.args.faults.now }) c.args.change c.in-None.is

pub returns-in-Some-clause-reports_all : goal.returns-in-Some-clause-reports_all
returns-in-Some-clause-reports_all g c =
    let before : Port = record { bytes = g.E.Write.contents c.args.faults.now; failed = g.E.Sink.fault_count c.args.faults.now } in
    let after : Port = record { bytes = g.E.Write.contents c.report_shown.new.faults; failed = g.E.Sink.fault_count c.report_shown.new.faults } in
    one_change c.args.lines.now.pids c.args.number before after c.args.change c.in-Some.shown c.in-Some.is c.report_shown.ensures
