use Rattle.std.proofs.Common.{◌≡◌, take, length, sum_by}
use Rattle.psi_tables.specs.ProgramMap.{stream_loop_of, streams_bytes}
use Rattle.description_parts.specs.Tables.{entry_length}
use Rattle.description.specs.SectionBytes.{pmt_streams}
use Rattle.description.proofs.program_map.program_streams.Given as goal

abbrev pub invariant-loop-stream : goal.invariant-loop-stream
invariant-loop-stream l = record {
  streams : stream_loop_of l.entries ≡ pmt_streams l.number (take l.stream-index l.streams);
  length : length (streams_bytes (stream_loop_of l.entries)) ≡ sum_by (entry_length l.number) (take l.stream-index l.streams);
}
