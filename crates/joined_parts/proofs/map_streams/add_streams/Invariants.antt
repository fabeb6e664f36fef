use Rattle.std.proofs.Common.{◌≡◌}
use Rattle.psi_tables.specs.ProgramMap.{stream_loop_of, streams_of}
use Rattle.joined_parts.specs.MapStreams.{with_streams}
use Rattle.joined_parts.proofs.map_streams.add_streams.Given as goal

abbrev pub invariant-loop-stream : goal.invariant-loop-stream
invariant-loop-stream l =
    with_streams (stream_loop_of l.streams) (streams_of l.stream-iterator) ≡ with_streams (stream_loop_of l.fn.streams) (streams_of l.fn.more)
