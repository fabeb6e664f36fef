use Rattle.std.proofs.Common.{append_assoc}
use Rattle.job_run.specs.RecodingLines.{recoding_line}
use Rattle.job_run.proofs.recoding_lines.write_recoding.Goals as goal

pub returns : goal.returns
unfolding recoding_line
returns c = simp append_assoc c.write.ensures.bytes
