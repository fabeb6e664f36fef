use Rattle.std.proofs.Common.{append_assoc}
use Rattle.plan_diagnosis.specs.ReasonLines.{rate_line}
use Rattle.plan_diagnosis.proofs.reasons.write_rate.Goals as goal

pub returns-in-Some : goal.returns-in-Some
unfolding rate_line
returns-in-Some c = rw c.in-Some.is (simp append_assoc c.write.ensures.bytes)
