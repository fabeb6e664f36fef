use Rattle.std.proofs.Common.{◌≡◌, ◌∙◌, List, length, ap, arith}
use Rattle.psi_tables.specs.ProgramMap.{StreamView, stream_loop_of, streams_bytes}
use Rattle.description.proofs.LoopLengths.{no_stream_bytes}
use Rattle.description.proofs.description.Description.map_entries.Goals as goal

pub returns-else-is_on_air-clause-length : goal.returns-else-is_on_air-clause-length
returns-else-is_on_air-clause-length c =
    let none : length (streams_bytes (stream_loop_of c.new.result)) ≡ 0 =
    ap (λ (xs : List StreamView). length (streams_bytes xs)) c.new.ensures ∙ no_stream_bytes in
    omega (arith, none)
