use Rattle.std.proofs.Common.{◌≡◌, ℕ, List, []}
use Rattle.devices.specs.Devices.{between}
use Rattle.fed_streams.specs.Feeding.{FeedView}
use Rattle.es_feed.specs.Watching.{watched_first}
use Rattle.es_feed.specs.StreamLines.{first_lines}
use Rattle.es_feed.proofs.PassedStreams.{MidwayLong}
use Rattle.es_feed.proofs.passing.pass_pieces.Given as goal

abbrev pub invariant-loop : goal.invariant-loop
invariant-loop g l = record {
  out : l.fed.items ≡ [];
  came : (first : FeedView) (pids : List ℕ) → l.fn.stream ≡ watched_first first → l.fn.lines ≡ first_lines pids →
      MidwayLong first pids (between (record { bytes = g.R.Read.remaining l.fn.input; failed = g.R.Source.fault_count l.fn.input })
      (record { bytes = g.R.Read.remaining l.input; failed = g.R.Source.fault_count l.input }))
      (between (record { bytes = g.W.Write.contents l.fn.output; failed = g.W.Sink.fault_count l.fn.output })
      (record { bytes = g.W.Write.contents l.output; failed = g.W.Sink.fault_count l.output }))
      (between (record { bytes = g.E.Write.contents l.fn.faults; failed = g.E.Sink.fault_count l.fn.faults })
      (record { bytes = g.E.Write.contents l.faults; failed = g.E.Sink.fault_count l.faults })) l.faulty l.stream l.lines
      l.counter;
}
