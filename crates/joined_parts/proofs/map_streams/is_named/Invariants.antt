use Rattle.std.proofs.Common.{◌≡◌, ◌==◌}
use Rattle.std.specs.List.{list_any}
use Rattle.psi_tables.specs.ProgramMap.{StreamView, streams_of}
use Rattle.joined_parts.proofs.map_streams.is_named.Given as goal

abbrev pub invariant-loop-stream : goal.invariant-loop-stream
invariant-loop-stream l =
    list_any (λ (s : StreamView). s.elementary_pid == l.pid) (streams_of l.stream-iterator)
    ≡ list_any (λ (s : StreamView). s.elementary_pid == l.pid) (streams_of l.fn.streams)
