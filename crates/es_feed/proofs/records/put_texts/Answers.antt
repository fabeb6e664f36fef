use Rattle.devices.specs.Devices.{Port, between}
use Rattle.std.proofs.Common.{◌++◌}
use Rattle.es_feed.proofs.PendingOutput.{puts_failed, puts_more}
use Rattle.es_feed.proofs.records.put_texts.Goals as goal

pub returns-in-Ok : goal.returns-in-Ok
returns-in-Ok g c =
    let old : Port = record { bytes = g.W.Write.contents c.args.to.now; failed = g.W.Sink.fault_count c.args.to.now } in
    let mid : Port = record { bytes = g.W.Write.contents c.put.new.to; failed = g.W.Sink.fault_count c.put.new.to } in
    let new : Port = record { bytes = g.W.Write.contents c.put-in-Ok.new.to; failed = g.W.Sink.fault_count c.put-in-Ok.new.to } in
    puts_more old mid new (c.args.pending.now.items ++ c.args.text.now) c.put.new.pending.items c.args.plan.now c.put-in-Ok.new.pending.items c.put-in-Ok.result
    c.in-Ok.ensures c.put-in-Ok.ensures

pub returns-in-Err : goal.returns-in-Err
returns-in-Err g c =
    let old : Port = record { bytes = g.W.Write.contents c.args.to.now; failed = g.W.Sink.fault_count c.args.to.now } in
    let new : Port = record { bytes = g.W.Write.contents c.put.new.to; failed = g.W.Sink.fault_count c.put.new.to } in
    puts_failed (between old new) (c.args.pending.now.items ++ c.args.text.now) c.put.new.pending.items c.args.plan.now c.put.new.pending.items c.in-Err.halt
    c.in-Err.ensures
