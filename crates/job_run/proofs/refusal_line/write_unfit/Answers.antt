use Rattle.std.proofs.Common.{append_assoc}
use Rattle.job_run.specs.RefusalLine.{unfit_text}
use Rattle.job_run.proofs.refusal_line.write_unfit.Goals as goal

pub returns : goal.returns
unfolding unfit_text
returns c = simp append_assoc c.write.ensures.bytes
