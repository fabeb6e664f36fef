use Rattle.std.proofs.Common.{sym, ◌∙◌}
use Rattle.psi_tables.specs.ProgramMap.{stream_loop_of}
use Rattle.psi_tables.proofs.StreamEncodings.{length-streams_bytes}
use Rattle.psi_tables.proofs.pmt.stream_loop.StreamLoop.byte_length.Goals as goal

pub returns-clause-encoded : goal.returns-clause-encoded
unfolding stream_loop_of
returns-clause-encoded c = c.len.ensures.value ∙ sym (length-streams_bytes c.args.self.now.bytes.items c.args.self.now.whole)
