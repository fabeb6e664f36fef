use Rattle.std.proofs.Common.{◌≡◌, ◌||◌, arith}
use Rattle.devices.specs.Devices.{Port}
use Rattle.es_feed.proofs.ReportedLines.{front_more, front_none, front_whole, joined_false, joined_true}
use Rattle.es_feed.proofs.fed_records.report_faults.Goals as goal
use Rattle.es_feed.proofs.fed_records.report_faults.Goals.{then-reported, else-reported}

pub loop-one-init : goal.loop-one-init
loop-one-init g c = front_none c.args.lines.now (record { bytes = g.E.Write.contents c.args.faults.now; failed = g.E.Sink.fault_count c.args.faults.now })
    c.args.fed.now

pub loop-one-preserved : goal.loop-one-preserved
loop-one-preserved g c =
    let old : Port = record { bytes = g.E.Write.contents c.args.faults.now; failed = g.E.Sink.fault_count c.args.faults.now } in
    let mid : Port = record { bytes = g.E.Write.contents c.loop-one.faults; failed = g.E.Sink.fault_count c.loop-one.faults } in
    let new : Port = record { bytes = g.E.Write.contents c.report_one-reported.new.faults; failed = g.E.Sink.fault_count c.report_one-reported.new.faults } in
    let all : c.if-reported.found ≡ (c.loop-one.found || c.report_one-reported.result) = elim c.if-reported.branch [
      | then-reported w ↦ joined_true c.loop-one.found c.report_one-reported.result c.if-reported.found w.if-reported.true w.found-is
      | else-reported w ↦ joined_false c.loop-one.found c.report_one-reported.result c.if-reported.found w.if-reported.false w.found-is
    ] in
    front_more c.args.lines.now old mid new c.loop-one.lines c.report_one-reported.new.lines c.loop-one.found c.report_one-reported.result c.if-reported.found
    c.args.fed.now c.loop-one.one-index c.one-item.result c.loop-one-test.true c.one-item.is c.loop-one.invariant
    c.report_one-reported.ensures.reports_all c.report_one-reported.ensures.found all c.report_one-reported.ensures.lines

pub returns-clause-reports_all : goal.returns-clause-reports_all
returns-clause-reports_all g c =
    let old : Port = record { bytes = g.E.Write.contents c.args.faults.now; failed = g.E.Sink.fault_count c.args.faults.now } in
    let now : Port = record { bytes = g.E.Write.contents c.loop-one.faults; failed = g.E.Sink.fault_count c.loop-one.faults } in
    (front_whole c.args.lines.now old now c.loop-one.lines c.loop-one.found c.args.fed.now c.loop-one.one-index (omega (arith, c.loop-one-test.false))
    c.loop-one.invariant).reports_all

pub returns-clause-lines : goal.returns-clause-lines
returns-clause-lines g c =
    let old : Port = record { bytes = g.E.Write.contents c.args.faults.now; failed = g.E.Sink.fault_count c.args.faults.now } in
    let now : Port = record { bytes = g.E.Write.contents c.loop-one.faults; failed = g.E.Sink.fault_count c.loop-one.faults } in
    (front_whole c.args.lines.now old now c.loop-one.lines c.loop-one.found c.args.fed.now c.loop-one.one-index (omega (arith, c.loop-one-test.false))
    c.loop-one.invariant).state

pub returns-clause-found : goal.returns-clause-found
returns-clause-found g c =
    let old : Port = record { bytes = g.E.Write.contents c.args.faults.now; failed = g.E.Sink.fault_count c.args.faults.now } in
    let now : Port = record { bytes = g.E.Write.contents c.loop-one.faults; failed = g.E.Sink.fault_count c.loop-one.faults } in
    (front_whole c.args.lines.now old now c.loop-one.lines c.loop-one.found c.args.fed.now c.loop-one.one-index (omega (arith, c.loop-one-test.false))
    c.loop-one.invariant).found_is
