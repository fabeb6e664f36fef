use Rattle.std.proofs.Common.{append_assoc}
use Rattle.job_run.specs.WarningLines.{id_line}
use Rattle.job_run.proofs.warning_lines.write_id.Goals as goal

pub returns : goal.returns
unfolding id_line
returns c = simp append_assoc c.write.ensures.bytes
