use Rattle.std.proofs.Common.{◌≡◌}
use Rattle.std.specs.List.{list_all}
use Rattle.psi_tables.specs.ProgramMap.{StreamView, streams_of}
use Rattle.program_tables.specs.ProgramMaps.{has_stream}
use Rattle.program_tables.proofs.program_map.has_streams.Given as goal

abbrev pub invariant-loop-other : goal.invariant-loop-other
invariant-loop-other l =
    list_all (λ (s : StreamView). has_stream (streams_of l.streams) s) (streams_of l.other-iterator)
    ≡ list_all (λ (s : StreamView). has_stream (streams_of l.streams) s) (streams_of l.fn.others)
