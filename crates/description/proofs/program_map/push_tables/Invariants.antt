use Rattle.std.proofs.Common.{◌≡◌, ◌+◌, ◌++◌, take, length, sum_by}
use Rattle.psi_tables.specs.ProgramMap.{stream_loop_of, streams_bytes}
use Rattle.description_parts.specs.Tables.{listed_length}
use Rattle.description.specs.SectionBytes.{pmt_tables}
use Rattle.description.proofs.program_map.push_tables.Given as goal

abbrev pub invariant-loop-table : goal.invariant-loop-table
invariant-loop-table l = record {
  streams : stream_loop_of l.entries ≡ stream_loop_of l.initial.entries ++ pmt_tables l.number (take l.table-index l.tables);
  length : length (streams_bytes (stream_loop_of l.entries))
      ≡ length (streams_bytes (stream_loop_of l.initial.entries)) + sum_by (listed_length l.number) (take l.table-index l.tables);
}
