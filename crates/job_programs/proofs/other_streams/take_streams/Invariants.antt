use Rattle.std.proofs.Common.{◌≡◌}
use Rattle.dvb_tables.specs.TransportStreams.{transport_streams_of}
use Rattle.job_programs.specs.OtherStreams.{with_streams}
use Rattle.job_programs.proofs.other_streams.take_streams.Given as goal

abbrev pub invariant-loop-entry : goal.invariant-loop-entry
invariant-loop-entry l =
    with_streams l.id l.original l.taken.items (transport_streams_of l.entry-iterator)
    ≡ with_streams l.id l.original l.fn.taken.items (transport_streams_of l.fn.entries)
