use Rattle.devices.specs.Devices.{Port, between}
use Rattle.std.proofs.Common.{◌++◌, ◌∙◌, List, ℕ, Ok, Err, subst, length}
use Rattle.unit_records.specs.Records.{record_head}
use Rattle.es_feed.specs.Records.{Puts}
use Rattle.es_feed.proofs.PendingOutput.{puts_failed, puts_grouped, puts_more}
use Rattle.es_feed.proofs.records.put_record.Goals as goal

pub returns-in-Ok : goal.returns-in-Ok
returns-in-Ok g c =
    let old : Port = record { bytes = g.W.Write.contents c.args.to.now; failed = g.W.Sink.fault_count c.args.to.now } in
    let mid : Port = record { bytes = g.W.Write.contents c.put.new.to; failed = g.W.Sink.fault_count c.put.new.to } in
    let new : Port = record { bytes = g.W.Write.contents c.put-in-Ok.new.to; failed = g.W.Sink.fault_count c.put-in-Ok.new.to } in
    let unit = c.args.unit.now in
    let head = record_head c.args.stream unit.marks (length unit.bytes) unit.dts unit.pts in
    let first : Puts (between old mid) (c.args.pending.now.items ++ head) c.put.new.pending.items (Ok tt) =
    subst (λ (x : List ℕ). Puts (between old mid) (c.args.pending.now.items ++ x) c.put.new.pending.items (Ok tt))
    (c.as_slice.ensures.value ∙ c.record_head.ensures) c.in-Ok.ensures in
    let second : Puts (between mid new) (c.put.new.pending.items ++ unit.bytes) c.put-in-Ok.new.pending.items c.put-in-Ok.result =
    subst (λ (x : List ℕ). Puts (between mid new) (c.put.new.pending.items ++ x) c.put-in-Ok.new.pending.items c.put-in-Ok.result) c.bytes_of.ensures
    c.put-in-Ok.ensures in
    puts_grouped (between old new) c.args.pending.now.items head unit.bytes c.put-in-Ok.new.pending.items c.put-in-Ok.result
    (puts_more old mid new (c.args.pending.now.items ++ head) c.put.new.pending.items unit.bytes c.put-in-Ok.new.pending.items c.put-in-Ok.result first second)

pub returns-in-Err : goal.returns-in-Err
returns-in-Err g c =
    let old : Port = record { bytes = g.W.Write.contents c.args.to.now; failed = g.W.Sink.fault_count c.args.to.now } in
    let new : Port = record { bytes = g.W.Write.contents c.put.new.to; failed = g.W.Sink.fault_count c.put.new.to } in
    let unit = c.args.unit.now in
    let head = record_head c.args.stream unit.marks (length unit.bytes) unit.dts unit.pts in
    let first : Puts (between old new) (c.args.pending.now.items ++ head) c.put.new.pending.items (Err c.in-Err.halt) =
    subst (λ (x : List ℕ). Puts (between old new) (c.args.pending.now.items ++ x) c.put.new.pending.items (Err c.in-Err.halt))
    (c.as_slice.ensures.value ∙ c.record_head.ensures) c.in-Err.ensures in
    puts_grouped (between old new) c.args.pending.now.items head unit.bytes c.put.new.pending.items (Err c.in-Err.halt)
    (puts_failed (between old new) (c.args.pending.now.items ++ head) c.put.new.pending.items unit.bytes c.put.new.pending.items c.in-Err.halt first)
