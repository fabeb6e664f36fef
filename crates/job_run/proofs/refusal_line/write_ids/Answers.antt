use Rattle.std.proofs.Common.{append_assoc}
use Rattle.job_run.specs.RefusalLine.{refusal_line}
use Rattle.job_run.proofs.refusal_line.write_ids.Goals as goal

pub returns : goal.returns
unfolding refusal_line
returns c = simp append_assoc c.write.ensures.bytes
