use Rattle.std.proofs.Common.{◌≡◌, ◌++◌}
use Rattle.dvb_tables.specs.TransportStreams.{transport_streams_of, transport_streams_bytes}
use Rattle.dvb_tables.proofs.transport_stream.TransportStreams.append_all_to.Given as goal

abbrev pub invariant-loop-stream : goal.invariant-loop-stream
invariant-loop-stream l = l.out.items ++ transport_streams_bytes (transport_streams_of l.stream-iterator) ≡ l.initial.out.items
    ++ transport_streams_bytes (transport_streams_of l.fn.self)
