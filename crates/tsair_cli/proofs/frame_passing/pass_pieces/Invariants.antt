use Rattle.std.proofs.Common.{◌≡◌, []}
use Rattle.devices.specs.Devices.{between}
use Rattle.unit_records.specs.OpenRecords.{IsOpen}
use Rattle.tsair_cli.proofs.Unframing.{Come}
use Rattle.tsair_cli.proofs.frame_passing.pass_pieces.Given as goal

abbrev pub invariant-loop : goal.invariant-loop
invariant-loop g l = record {
  opens : IsOpen l.feed.frame.begun;
  records : l.feed.records.items ≡ [];
  drops : l.feed.drops.items ≡ [];
  come : Come (between (record { bytes = g.R.Read.remaining l.fn.input; failed = g.R.Source.fault_count l.fn.input })
      (record { bytes = g.R.Read.remaining l.input; failed = g.R.Source.fault_count l.input }))
      (between (record { bytes = g.W.Write.contents l.fn.output; failed = g.W.Sink.fault_count l.fn.output })
      (record { bytes = g.W.Write.contents l.output; failed = g.W.Sink.fault_count l.output }))
      (between (record { bytes = g.E.Write.contents l.fn.faults; failed = g.E.Sink.fault_count l.fn.faults })
      (record { bytes = g.E.Write.contents l.faults; failed = g.E.Sink.fault_count l.faults })) l.feed l.counter;
}
