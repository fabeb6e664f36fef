use Rattle.std.proofs.Common.{arith}
use Rattle.devices.specs.Devices.{Port}
use Rattle.es_feed.specs.FedLines.{fed_record}
use Rattle.es_feed.proofs.PendingOutput.{front_failed, front_more, front_none, front_whole}
use Rattle.es_feed.proofs.fed_records.put_all_fed.Goals as goal

pub loop-one-init : goal.loop-one-init
loop-one-init g c = front_none fed_record (record { bytes = g.W.Write.contents c.args.to.now; failed = g.W.Sink.fault_count c.args.to.now })
    c.args.pending.now.items c.args.fed.now

pub returns-in-Err : goal.returns-in-Err
returns-in-Err g c =
    let old : Port = record { bytes = g.W.Write.contents c.args.to.now; failed = g.W.Sink.fault_count c.args.to.now } in
    let mid : Port = record { bytes = g.W.Write.contents c.loop-one.to; failed = g.W.Sink.fault_count c.loop-one.to } in
    let new : Port = record { bytes = g.W.Write.contents c.put_fed.new.to; failed = g.W.Sink.fault_count c.put_fed.new.to } in
    front_failed fed_record old mid new c.args.pending.now.items c.loop-one.pending.items c.put_fed.new.pending.items c.args.fed.now c.loop-one.one-index
    c.one-item.result c.in-Err.halt
    c.loop-one-test.true c.one-item.is c.loop-one.invariant c.in-Err.ensures

pub loop-one-preserved : goal.loop-one-preserved
loop-one-preserved g c =
    let old : Port = record { bytes = g.W.Write.contents c.args.to.now; failed = g.W.Sink.fault_count c.args.to.now } in
    let mid : Port = record { bytes = g.W.Write.contents c.loop-one.to; failed = g.W.Sink.fault_count c.loop-one.to } in
    let new : Port = record { bytes = g.W.Write.contents c.put_fed.new.to; failed = g.W.Sink.fault_count c.put_fed.new.to } in
    front_more fed_record old mid new c.args.pending.now.items c.loop-one.pending.items c.put_fed.new.pending.items c.args.fed.now c.loop-one.one-index
    c.one-item.result
    c.loop-one-test.true c.one-item.is c.loop-one.invariant c.in-Ok.ensures

pub returns : goal.returns
returns g c =
    let old : Port = record { bytes = g.W.Write.contents c.args.to.now; failed = g.W.Sink.fault_count c.args.to.now } in
    let now : Port = record { bytes = g.W.Write.contents c.loop-one.to; failed = g.W.Sink.fault_count c.loop-one.to } in
    front_whole fed_record old now c.args.pending.now.items c.loop-one.pending.items c.args.fed.now c.loop-one.one-index (omega (arith, c.loop-one-test.false))
    c.loop-one.invariant
