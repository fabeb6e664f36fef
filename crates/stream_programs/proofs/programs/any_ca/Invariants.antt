use Rattle.std.proofs.Common.{◌≡◌}
use Rattle.std.specs.List.{list_any}
use Rattle.psi_tables.specs.ProgramMap.{StreamView, streams_of}
use Rattle.descriptor_loops.specs.Descriptors.{has_ca}
use Rattle.stream_programs.proofs.programs.any_ca.Given as goal

abbrev pub invariant-loop-stream : goal.invariant-loop-stream
invariant-loop-stream l =
    list_any (λ (s : StreamView). has_ca s.descriptors) (streams_of l.stream-iterator) ≡ list_any (λ (s : StreamView). has_ca s.descriptors)
    (streams_of l.fn.streams)
