use Rattle.es_feed.proofs.ReportedLines.{ReportsFront}
use Rattle.es_feed.proofs.fed_records.report_faults.Given as goal

abbrev pub invariant-loop-one : goal.invariant-loop-one
invariant-loop-one g l = ReportsFront l.fn.lines (record { bytes = g.E.Write.contents l.fn.faults; failed = g.E.Sink.fault_count l.fn.faults })
    (record { bytes = g.E.Write.contents l.faults; failed = g.E.Sink.fault_count l.faults }) l.lines l.found l.fed l.one-index
