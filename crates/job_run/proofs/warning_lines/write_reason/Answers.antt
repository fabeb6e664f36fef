use Rattle.std.proofs.Common.{append_assoc}
use Rattle.job_run.specs.WarningLines.{reason_text}
use Rattle.job_run.proofs.warning_lines.write_reason.Goals as goal

pub returns-in-OtherStreamId : goal.returns-in-OtherStreamId
unfolding reason_text
returns-in-OtherStreamId c = rw c.in-OtherStreamId.is (simp append_assoc c.write-in-OtherStreamId.ensures.bytes)
