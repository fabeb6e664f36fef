use Rattle.es_feed.specs.FedLines.{fed_record}
use Rattle.es_feed.proofs.PendingOutput.{SendsFront}
use Rattle.es_feed.proofs.fed_records.put_all_fed.Given as goal

abbrev pub invariant-loop-one : goal.invariant-loop-one
invariant-loop-one g l = SendsFront fed_record (record { bytes = g.W.Write.contents l.fn.to; failed = g.W.Sink.fault_count l.fn.to })
    (record { bytes = g.W.Write.contents l.to; failed = g.W.Sink.fault_count l.to }) l.fn.pending.items l.pending.items l.fed l.one-index
