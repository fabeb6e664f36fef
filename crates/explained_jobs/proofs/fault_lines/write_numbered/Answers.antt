use Rattle.std.proofs.Common.{append_assoc}
use Rattle.explained_jobs.specs.FaultLines.{numbered_head}
use Rattle.explained_jobs.proofs.fault_lines.write_numbered.Goals as goal

pub returns : goal.returns
unfolding numbered_head
returns c = simp append_assoc c.write.ensures.bytes
