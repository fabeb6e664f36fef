use Rattle.std.proofs.Common.{append_assoc}
use Rattle.job_run.specs.GapLines.{jump_text}
use Rattle.job_run.proofs.gap_lines.write_jump.Goals as goal

pub returns : goal.returns
unfolding jump_text
returns c = simp append_assoc c.write.ensures.bytes
