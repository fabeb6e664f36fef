use Rattle.tsair_cli.proofs.Unframing.{ReportsDrops}
use Rattle.tsair_cli.proofs.frame_feed.report_drops.Given as goal

abbrev pub invariant-loop-count : goal.invariant-loop-count
invariant-loop-count g l = ReportsDrops (record { bytes = g.E.Write.contents l.fn.faults; failed = g.E.Sink.fault_count l.fn.faults })
    (record { bytes = g.E.Write.contents l.faults; failed = g.E.Sink.fault_count l.faults }) l.drops l.count-index
