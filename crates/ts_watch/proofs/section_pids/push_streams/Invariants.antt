use Rattle.std.proofs.Common.{◌≡◌, ◌++◌, flat_map}
use Rattle.psi_tables.specs.ProgramMap.{streams_of}
use Rattle.ts_watch.specs.SectionPids.{stream_pids}
use Rattle.ts_watch.proofs.section_pids.push_streams.Given as goal

abbrev pub invariant-loop-stream : goal.invariant-loop-stream
invariant-loop-stream l =
    l.pids.items ++ flat_map stream_pids (streams_of l.stream-iterator) ≡ l.initial.pids.items ++ flat_map stream_pids (streams_of l.fn.streams)
