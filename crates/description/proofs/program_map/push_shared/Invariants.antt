use Rattle.std.proofs.Common.{◌≡◌, ◌+◌, ◌++◌, take, length, sum_by}
use Rattle.psi_tables.specs.ProgramMap.{stream_loop_of, streams_bytes}
use Rattle.description_parts.specs.Tables.{shared_length}
use Rattle.description.specs.SectionBytes.{pmt_shared}
use Rattle.description.proofs.program_map.push_shared.Given as goal

abbrev pub invariant-loop-stream : goal.invariant-loop-stream
invariant-loop-stream l = record {
  streams : stream_loop_of l.entries ≡ stream_loop_of l.initial.entries ++ pmt_shared l.number (take l.stream-index l.streams);
  length : length (streams_bytes (stream_loop_of l.entries))
      ≡ length (streams_bytes (stream_loop_of l.initial.entries)) + sum_by (shared_length l.number) (take l.stream-index l.streams);
}
