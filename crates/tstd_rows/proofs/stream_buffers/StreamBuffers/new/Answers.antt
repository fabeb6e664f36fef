use Rattle.std.proofs.Common.{arith}
use Rattle.tstd_rows.proofs.VideoRows.{none_left}
use Rattle.tstd_rows.proofs.stream_buffers.StreamBuffers.new.Goals as goal

pub invariant_of-result-clause-soon : goal.invariant_of-result-clause-soon
invariant_of-result-clause-soon c = omega (arith, none_left c.new.result c.new.ensures.view)
