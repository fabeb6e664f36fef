use Rattle.std.proofs.Common.{ap, length, ◌∙◌}
use Rattle.psi_tables.specs.ProgramMap.{streams_bytes}
use Rattle.description.proofs.LoopLengths.{no_stream_bytes}
use Rattle.description.proofs.program_map.program_streams.Goals as goal

pub loop-stream-init : goal.loop-stream-init
loop-stream-init c = record {
  streams = c.new-entries.ensures;
  length = ap (λ xs. length (streams_bytes xs)) c.new-entries.ensures ∙ no_stream_bytes;
}
