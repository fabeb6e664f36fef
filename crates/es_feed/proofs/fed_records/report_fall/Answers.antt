use Rattle.devices.specs.Devices.{Port}
use Rattle.es_feed.proofs.ReportedLines.{fall_none, fall_own, fall_unordered}
use Rattle.es_feed.proofs.fed_records.report_fall.Goals as goal

pub returns-then-fell-eq-UNORDERED : goal.returns-then-fell-eq-UNORDERED
returns-then-fell-eq-UNORDERED g c =
    fall_none (record { bytes = g.E.Write.contents c.args.faults.now; failed = g.E.Sink.fault_count c.args.faults.now }) c.args.fell c.args.pid c.args.fault
    c.if-fell-eq-UNORDERED.true

pub returns-then-fell-eq0 : goal.returns-then-fell-eq0
returns-then-fell-eq0 g c =
    let before : Port = record { bytes = g.E.Write.contents c.args.faults.now; failed = g.E.Sink.fault_count c.args.faults.now } in
    let after : Port = record { bytes = g.E.Write.contents c.report_fault.new.faults; failed = g.E.Sink.fault_count c.report_fault.new.faults } in
    fall_own before after c.args.fell c.args.pid c.args.fault c.if-fell-eq0.true c.report_fault.ensures

pub returns : goal.returns
returns g c =
    let before : Port = record { bytes = g.E.Write.contents c.args.faults.now; failed = g.E.Sink.fault_count c.args.faults.now } in
    let after : Port = record { bytes = g.E.Write.contents c.report_unordered.new.faults; failed = g.E.Sink.fault_count c.report_unordered.new.faults } in
    fall_unordered before after c.args.fell c.args.pid c.args.fault c.if-fell-eq0.false c.if-fell-eq-UNORDERED.false c.report_unordered.ensures
