use Rattle.devices.specs.Devices.{Port, between}
use Rattle.std.proofs.Common.{◌++◌}
use Rattle.es_feed.specs.Records.{records_of}
use Rattle.es_feed.proofs.PendingOutput.{puts_failed, puts_more}
use Rattle.es_feed.proofs.records.put_job.Goals as goal

pub returns-in-Ok : goal.returns-in-Ok
returns-in-Ok g c =
    let old : Port = record { bytes = g.W.Write.contents c.args.to.now; failed = g.W.Sink.fault_count c.args.to.now } in
    let mid : Port = record { bytes = g.W.Write.contents c.put_texts.new.to; failed = g.W.Sink.fault_count c.put_texts.new.to } in
    let new : Port = record { bytes = g.W.Write.contents c.put_records.new.to; failed = g.W.Sink.fault_count c.put_records.new.to } in
    puts_more old mid new ((c.args.pending.now.items ++ c.args.text.now) ++ c.args.plan.now) c.put_texts.new.pending.items (records_of c.args.units.now)
    c.put_records.new.pending.items
    c.put_records.result c.in-Ok.ensures c.put_records.ensures

pub returns-in-Err : goal.returns-in-Err
returns-in-Err g c =
    let old : Port = record { bytes = g.W.Write.contents c.args.to.now; failed = g.W.Sink.fault_count c.args.to.now } in
    let new : Port = record { bytes = g.W.Write.contents c.put_texts.new.to; failed = g.W.Sink.fault_count c.put_texts.new.to } in
    puts_failed (between old new) ((c.args.pending.now.items ++ c.args.text.now) ++ c.args.plan.now) c.put_texts.new.pending.items (records_of c.args.units.now)
    c.put_texts.new.pending.items
    c.in-Err.halt c.in-Err.ensures
