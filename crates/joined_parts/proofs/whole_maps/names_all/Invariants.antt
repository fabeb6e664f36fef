use Rattle.std.proofs.Common.{◌≡◌}
use Rattle.std.specs.List.{list_all}
use Rattle.psi_tables.specs.ProgramMap.{StreamView, streams_of}
use Rattle.joined_parts.specs.MapStreams.{is_named}
use Rattle.joined_parts.proofs.whole_maps.names_all.Given as goal

abbrev pub invariant-loop-stream : goal.invariant-loop-stream
invariant-loop-stream l =
    list_all (λ (s : StreamView). is_named (streams_of l.named) s.elementary_pid) (streams_of l.stream-iterator)
    ≡ list_all (λ (s : StreamView). is_named (streams_of l.named) s.elementary_pid) (streams_of l.fn.streams)
