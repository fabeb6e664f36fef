use Rattle.std.proofs.Common.{sym}
use Rattle.psi_tables.specs.ProgramMap.{streams_of}
use Rattle.psi_tables.proofs.StreamEncodings.{length-streams_bytes}
use Rattle.psi_tables.proofs.pmt.streams.Streams.byte_length.Goals as goal

pub returns : goal.returns
unfolding streams_of
returns c = sym (length-streams_bytes c.args.self.now.bytes.now c.args.self.now.whole)
