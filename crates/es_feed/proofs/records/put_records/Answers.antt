use Rattle.std.proofs.Common.{arith}
use Rattle.devices.specs.Devices.{Port}
use Rattle.es_feed.specs.Records.{record_of}
use Rattle.es_feed.proofs.PendingOutput.{front_failed, front_more, front_none, front_whole}
use Rattle.es_feed.proofs.records.put_records.Goals as goal

pub loop-entry-init : goal.loop-entry-init
loop-entry-init g c =
    front_none record_of (record { bytes = g.W.Write.contents c.args.to.now; failed = g.W.Sink.fault_count c.args.to.now }) c.args.pending.now.items
    c.args.units.now

pub returns-in-Err : goal.returns-in-Err
returns-in-Err g c =
    let old : Port = record { bytes = g.W.Write.contents c.args.to.now; failed = g.W.Sink.fault_count c.args.to.now } in
    let mid : Port = record { bytes = g.W.Write.contents c.loop-entry.to; failed = g.W.Sink.fault_count c.loop-entry.to } in
    let new : Port = record { bytes = g.W.Write.contents c.put_record.new.to; failed = g.W.Sink.fault_count c.put_record.new.to } in
    front_failed record_of old mid new c.args.pending.now.items c.loop-entry.pending.items c.put_record.new.pending.items c.args.units.now
    c.loop-entry.entry-index c.entry-item.result c.in-Err.halt
    c.loop-entry-test.true c.entry-item.is c.loop-entry.invariant c.in-Err.ensures

pub loop-entry-preserved : goal.loop-entry-preserved
loop-entry-preserved g c =
    let old : Port = record { bytes = g.W.Write.contents c.args.to.now; failed = g.W.Sink.fault_count c.args.to.now } in
    let mid : Port = record { bytes = g.W.Write.contents c.loop-entry.to; failed = g.W.Sink.fault_count c.loop-entry.to } in
    let new : Port = record { bytes = g.W.Write.contents c.put_record.new.to; failed = g.W.Sink.fault_count c.put_record.new.to } in
    front_more record_of old mid new c.args.pending.now.items c.loop-entry.pending.items c.put_record.new.pending.items c.args.units.now
    c.loop-entry.entry-index c.entry-item.result
    c.loop-entry-test.true c.entry-item.is c.loop-entry.invariant c.in-Ok.ensures

pub returns : goal.returns
returns g c =
    let old : Port = record { bytes = g.W.Write.contents c.args.to.now; failed = g.W.Sink.fault_count c.args.to.now } in
    let now : Port = record { bytes = g.W.Write.contents c.loop-entry.to; failed = g.W.Sink.fault_count c.loop-entry.to } in
    front_whole record_of old now c.args.pending.now.items c.loop-entry.pending.items c.args.units.now c.loop-entry.entry-index
    (omega (arith, c.loop-entry-test.false)) c.loop-entry.invariant
