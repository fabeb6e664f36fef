use Rattle.std.proofs.Common.{◌≡◌}
use Rattle.std.specs.List.{list_any}
use Rattle.psi_tables.specs.ProgramMap.{StreamView, stream_view, streams_of}
use Rattle.program_tables.specs.ProgramMaps.{is_same_stream}
use Rattle.program_tables.proofs.program_map.has_stream.Given as goal

abbrev pub invariant-loop-other : goal.invariant-loop-other
invariant-loop-other l =
    list_any (λ (s : StreamView). is_same_stream s (stream_view l.stream)) (streams_of l.other-iterator)
    ≡ list_any (λ (s : StreamView). is_same_stream s (stream_view l.stream)) (streams_of l.fn.streams)
