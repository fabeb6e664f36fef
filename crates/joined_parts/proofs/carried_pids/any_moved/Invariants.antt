use Rattle.std.proofs.Common.{◌≡◌}
use Rattle.std.specs.List.{list_any}
use Rattle.psi_tables.specs.ProgramMap.{StreamView, streams_of}
use Rattle.joined_parts.specs.Recodings.{is_moved}
use Rattle.joined_parts.proofs.carried_pids.any_moved.Given as goal

abbrev pub invariant-loop-stream : goal.invariant-loop-stream
invariant-loop-stream l =
    list_any (λ (s : StreamView). is_moved l.recodings l.packet s) (streams_of l.stream-iterator)
    ≡ list_any (λ (s : StreamView). is_moved l.recodings l.packet s) (streams_of l.fn.streams)
