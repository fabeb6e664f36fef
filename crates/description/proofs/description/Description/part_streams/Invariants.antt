use Rattle.std.proofs.Common.{◌≡◌, length, slice_range, sum_by}
use Rattle.dvb_tables.specs.TransportStreams.{transport_stream_loop_of, transport_streams_bytes}
use Rattle.description_parts.specs.Tables.{network_stream_length, network_streams}
use Rattle.description.proofs.NetworkFacts.{viewed}
use Rattle.description.proofs.description.Description.part_streams.Given as goal

abbrev pub invariant-loop-place : goal.invariant-loop-place
invariant-loop-place l = record {
  streams : transport_stream_loop_of l.entries ≡ viewed (slice_range (network_streams l.self l.network) l.begin l.place);
  length : length (transport_streams_bytes (transport_stream_loop_of l.entries))
      ≡ sum_by network_stream_length (slice_range (network_streams l.self l.network) l.begin l.place);
}
