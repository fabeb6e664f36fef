use Rattle.std.proofs.Common.{◌≡◌, ◌+◌, ◌++◌, length}
use Rattle.arrayvec.specs.ArrayVec.{array_vec_len}
use Rattle.psi_tables.specs.ProgramMap.{streams_bytes, streams_of}
use Rattle.psi_tables.proofs.pmt.append_streams.Given as goal

abbrev pub invariant-loop-stream : goal.invariant-loop-stream
invariant-loop-stream l =
    (l.out.items ++ streams_bytes (streams_of l.stream-iterator) ≡ l.initial.out.items ++ streams_bytes (streams_of l.streams))
    × (array_vec_len l.out + length (streams_bytes (streams_of l.stream-iterator)) ≡ array_vec_len l.initial.out
    + length (streams_bytes (streams_of l.streams)))
