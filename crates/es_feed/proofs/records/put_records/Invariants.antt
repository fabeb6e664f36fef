use Rattle.es_feed.specs.Records.{record_of}
use Rattle.es_feed.proofs.PendingOutput.{SendsFront}
use Rattle.es_feed.proofs.records.put_records.Given as goal

abbrev pub invariant-loop-entry : goal.invariant-loop-entry
invariant-loop-entry g l = SendsFront record_of (record { bytes = g.W.Write.contents l.fn.to; failed = g.W.Sink.fault_count l.fn.to })
    (record { bytes = g.W.Write.contents l.to; failed = g.W.Sink.fault_count l.to }) l.fn.pending.items l.pending.items l.units l.entry-index
