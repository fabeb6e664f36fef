use Rattle.std.proofs.Common.{◌≡◌, ◌++◌, ℕ, List, [], subst, Ok, Err}
use Rattle.devices.specs.Devices.{Port, between}
use Rattle.es_feed.specs.Records.{Puts, records_of}
use Rattle.es_feed.proofs.PendingOutput.{puts_then_whole, puts_failed_whole}
use Rattle.es_feed.proofs.records.write_job.Goals as goal

pub returns-in-Ok : goal.returns-in-Ok
returns-in-Ok g c =
    let old : Port = record { bytes = g.W.Write.contents c.args.to.now; failed = g.W.Sink.fault_count c.args.to.now } in
    let mid : Port = record { bytes = g.W.Write.contents c.put_job.new.to; failed = g.W.Sink.fault_count c.put_job.new.to } in
    let new : Port = record { bytes = g.W.Write.contents c.flush.new.to; failed = g.W.Sink.fault_count c.flush.new.to } in
    let none : c.new-pending.result.items ≡ [] = c.new-pending.ensures in
    let puts : Puts (between old mid) ((c.args.text.now ++ c.args.plan.now) ++ records_of c.args.units.now) c.put_job.new.pending.items (Ok tt) =
    subst (λ (x : List ℕ). Puts (between old mid) (((x ++ c.args.text.now) ++ c.args.plan.now) ++ records_of c.args.units.now) c.put_job.new.pending.items
    (Ok tt)) none c.in-Ok.ensures in
    puts_then_whole old mid new ((c.args.text.now ++ c.args.plan.now) ++ records_of c.args.units.now) c.put_job.new.pending.items c.flush.new.pending.items
    c.flush.result
    puts c.flush.ensures.puts c.flush.ensures.none

pub returns-in-Err : goal.returns-in-Err
returns-in-Err g c =
    let old : Port = record { bytes = g.W.Write.contents c.args.to.now; failed = g.W.Sink.fault_count c.args.to.now } in
    let new : Port = record { bytes = g.W.Write.contents c.put_job.new.to; failed = g.W.Sink.fault_count c.put_job.new.to } in
    let none : c.new-pending.result.items ≡ [] = c.new-pending.ensures in
    let puts : Puts (between old new) ((c.args.text.now ++ c.args.plan.now) ++ records_of c.args.units.now) c.put_job.new.pending.items (Err c.in-Err.halt) =
    subst (λ (x : List ℕ). Puts (between old new) (((x ++ c.args.text.now) ++ c.args.plan.now) ++ records_of c.args.units.now) c.put_job.new.pending.items
    (Err c.in-Err.halt)) none c.in-Err.ensures in
    puts_failed_whole (between old new) ((c.args.text.now ++ c.args.plan.now) ++ records_of c.args.units.now) c.put_job.new.pending.items c.in-Err.halt puts
