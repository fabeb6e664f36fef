use Rattle.std.proofs.Common.{arith}
use Rattle.psi_tables.proofs.StreamEncodings.{length_streams_step}
use Rattle.psi_tables.proofs.pmt.append_streams.Goals as goal

pub append_entry-requires : goal.append_entry-requires
append_entry-requires c = (omega arith, omega (arith, length_streams_step _ _ _ c.in-Some.ensures.steps))
