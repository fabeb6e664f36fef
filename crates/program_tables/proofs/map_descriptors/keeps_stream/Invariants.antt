use Rattle.std.proofs.Common.{◌≡◌}
use Rattle.std.specs.List.{list_all}
use Rattle.psi_tables.specs.ProgramMap.{StreamView, stream_view, streams_of}
use Rattle.program_tables.specs.ProgramMaps.{keeps_one}
use Rattle.program_tables.proofs.map_descriptors.keeps_stream.Given as goal

abbrev pub invariant-loop-one : goal.invariant-loop-one
invariant-loop-one l =
    list_all (λ (s : StreamView). keeps_one s (stream_view l.stream)) (streams_of l.one-iterator)
    ≡ list_all (λ (s : StreamView). keeps_one s (stream_view l.stream)) (streams_of l.fn.streams)
