use Rattle.std.proofs.Common.{append_assoc}
use Rattle.job_run.specs.GapLines.{hole_text}
use Rattle.job_run.proofs.gap_lines.write_hole.Goals as goal

pub returns : goal.returns
unfolding hole_text
returns c = simp append_assoc c.write.ensures.bytes
