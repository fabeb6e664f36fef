use Rattle.std.proofs.Common.{◌≡◌}
use Rattle.psi_tables.specs.ProgramMap.{stream_loop_of, streams_of}
use Rattle.joined_parts.specs.Recodings.{with_carried}
use Rattle.joined_parts.proofs.carried_pids.add_carried.Given as goal

abbrev pub invariant-loop-stream : goal.invariant-loop-stream
invariant-loop-stream l =
    with_carried l.recodings l.packet (stream_loop_of l.streams) (streams_of l.stream-iterator)
    ≡ with_carried l.recodings l.packet (stream_loop_of l.fn.streams) (streams_of l.fn.more)
