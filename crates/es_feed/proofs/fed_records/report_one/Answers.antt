use Rattle.devices.specs.Devices.{Port}
use Rattle.es_feed.proofs.ReportedLines.{fault_has, unit_lines}
use Rattle.es_feed.proofs.fed_records.report_one.Goals as goal

pub returns-in-Ok-clause-reports_all : goal.returns-in-Ok-clause-reports_all
returns-in-Ok-clause-reports_all g c =
    let before : Port = record { bytes = g.E.Write.contents c.args.faults.now; failed = g.E.Sink.fault_count c.args.faults.now } in
    let after : Port = record { bytes = g.E.Write.contents c.report_unit.new.faults; failed = g.E.Sink.fault_count c.report_unit.new.faults } in
    unit_lines c.args.lines.now before after c.args.fed.now c.in-Ok.unit c.in-Ok.is c.report_unit.ensures.reports_all

pub returns-in-Err-clause-reports_all : goal.returns-in-Err-clause-reports_all
returns-in-Err-clause-reports_all g c =
    let before : Port = record { bytes = g.E.Write.contents c.args.faults.now; failed = g.E.Sink.fault_count c.args.faults.now } in
    let after : Port = record { bytes = g.E.Write.contents c.report_and_take.new.faults; failed = g.E.Sink.fault_count c.report_and_take.new.faults } in
    fault_has c.args.lines.now before after c.args.fed.now c.in-Err.fault c.in-Err.is c.report_and_take.ensures.reports_all
