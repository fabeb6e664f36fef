use Rattle.std.proofs.Common.{◌≡◌}
use Rattle.psi_tables.specs.ProgramMap.{streams_of}
use Rattle.stream_programs.specs.Programs.{with_streams}
use Rattle.stream_programs.proofs.gathered.Gathered.note_streams.Given as goal

abbrev pub invariant-loop-stream : goal.invariant-loop-stream
invariant-loop-stream g l =
    with_streams l.self l.program l.pcr_pid (streams_of l.stream-iterator) ≡ with_streams l.initial.self l.program l.pcr_pid (streams_of l.fn.streams)
