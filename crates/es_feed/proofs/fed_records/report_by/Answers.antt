use Rattle.std.proofs.Common.{◌∙◌, sym}
use Rattle.devices.specs.Devices.{Port}
use Rattle.es_feed.proofs.ReportedLines.{fault_falls, fault_other}
use Rattle.es_feed.proofs.fed_records.report_by.Goals as goal

pub returns-then-is_short_fall : goal.returns-then-is_short_fall
returns-then-is_short_fall g c =
    let before : Port = record { bytes = g.E.Write.contents c.args.faults.now; failed = g.E.Sink.fault_count c.args.faults.now } in
    let after : Port = record { bytes = g.E.Write.contents c.report_fall.new.faults; failed = g.E.Sink.fault_count c.report_fall.new.faults } in
    fault_falls before after c.args.fell c.args.pid c.args.fault (sym c.is_short_fall.ensures ∙ c.if-is_short_fall.true) c.report_fall.ensures

pub returns : goal.returns
returns g c =
    let before : Port = record { bytes = g.E.Write.contents c.args.faults.now; failed = g.E.Sink.fault_count c.args.faults.now } in
    let after : Port = record { bytes = g.E.Write.contents c.report_fault.new.faults; failed = g.E.Sink.fault_count c.report_fault.new.faults } in
    fault_other before after c.args.fell c.args.pid c.args.fault (sym c.is_short_fall.ensures ∙ c.if-is_short_fall.false) c.report_fault.ensures
