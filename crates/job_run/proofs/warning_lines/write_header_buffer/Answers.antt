use Rattle.std.proofs.Common.{append_assoc}
use Rattle.job_run.specs.WarningLines.{header_line}
use Rattle.job_run.proofs.warning_lines.write_header_buffer.Goals as goal

pub returns : goal.returns
unfolding header_line
returns c = simp append_assoc c.write.ensures.bytes
