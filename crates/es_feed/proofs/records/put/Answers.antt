use Rattle.devices.specs.Devices.{Port, between}
use Rattle.es_feed.proofs.PendingOutput.{puts_failed, puts_first}
use Rattle.es_feed.proofs.records.put.Goals as goal

pub returns-in-Ok : goal.returns-in-Ok
returns-in-Ok g c =
    let old : Port = record { bytes = g.W.Write.contents c.args.to.now; failed = g.W.Sink.fault_count c.args.to.now } in
    let mid : Port = record { bytes = g.W.Write.contents c.flush.new.to; failed = g.W.Sink.fault_count c.flush.new.to } in
    let new : Port = record { bytes = g.W.Write.contents c.put_first.new.to; failed = g.W.Sink.fault_count c.put_first.new.to } in
    puts_first old mid new c.args.pending.now.items c.flush.new.pending.items c.args.part.now c.put_first.new.pending.items c.put_first.result
    c.in-Ok.ensures.none
    c.in-Ok.ensures.puts c.put_first.ensures

pub returns-in-Err : goal.returns-in-Err
returns-in-Err g c =
    let old : Port = record { bytes = g.W.Write.contents c.args.to.now; failed = g.W.Sink.fault_count c.args.to.now } in
    let new : Port = record { bytes = g.W.Write.contents c.flush.new.to; failed = g.W.Sink.fault_count c.flush.new.to } in
    puts_failed (between old new) c.args.pending.now.items c.flush.new.pending.items c.args.part.now c.flush.new.pending.items c.in-Err.halt
    c.in-Err.ensures.puts
