use Rattle.std.proofs.Common.{◌≡◌}
use Rattle.psi_tables.specs.ProgramMap.{streams_of}
use Rattle.joined_parts.specs.Recodings.{with_codings}
use Rattle.joined_parts.proofs.recodings.CodingChanges.take_streams.Given as goal

abbrev pub invariant-loop-stream : goal.invariant-loop-stream
invariant-loop-stream l =
    with_codings l.self l.key l.packet (streams_of l.stream-iterator) ≡ with_codings l.fn.self l.key l.packet (streams_of l.fn.streams)
