use Rattle.std.proofs.Common.{◌≡◌}
use Rattle.psi_tables.specs.ProgramMap.{streams_of}
use Rattle.joined_parts.specs.Recodings.{with_stream_pids}
use Rattle.joined_parts.proofs.recodings.add_stream_pids.Given as goal

abbrev pub invariant-loop-stream : goal.invariant-loop-stream
invariant-loop-stream l = with_stream_pids l.pids (streams_of l.stream-iterator) ≡ with_stream_pids l.fn.pids (streams_of l.fn.streams)
