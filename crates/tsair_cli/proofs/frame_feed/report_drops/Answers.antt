use Rattle.std.proofs.Common.{arith}
use Rattle.devices.specs.Devices.{Port}
use Rattle.tsair_cli.proofs.Unframing.{drop_more, drops_reported, no_drop}
use Rattle.tsair_cli.proofs.frame_feed.report_drops.Goals as goal

pub loop-count-init : goal.loop-count-init
loop-count-init g c = no_drop (record { bytes = g.E.Write.contents c.args.faults.now; failed = g.E.Sink.fault_count c.args.faults.now }) c.args.drops.now

pub loop-count-preserved : goal.loop-count-preserved
loop-count-preserved g c =
    let old : Port = record { bytes = g.E.Write.contents c.args.faults.now; failed = g.E.Sink.fault_count c.args.faults.now } in
    let mid : Port = record { bytes = g.E.Write.contents c.loop-count.faults; failed = g.E.Sink.fault_count c.loop-count.faults } in
    let new : Port = record { bytes = g.E.Write.contents c.report_drop.new.faults; failed = g.E.Sink.fault_count c.report_drop.new.faults } in
    drop_more old mid new c.args.drops.now c.loop-count.count-index c.loop-count-test.true c.loop-count.invariant c.report_drop.ensures

pub returns : goal.returns
returns g c =
    let old : Port = record { bytes = g.E.Write.contents c.args.faults.now; failed = g.E.Sink.fault_count c.args.faults.now } in
    let now : Port = record { bytes = g.E.Write.contents c.loop-count.faults; failed = g.E.Sink.fault_count c.loop-count.faults } in
    drops_reported old now c.args.drops.now c.loop-count.count-index (omega (arith, c.loop-count-test.false)) c.loop-count.invariant
