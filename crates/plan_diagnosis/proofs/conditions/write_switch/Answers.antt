use Rattle.std.proofs.Common.{append_assoc}
use Rattle.plan_diagnosis.proofs.conditions.write_switch.Goals as goal

pub returns : goal.returns
returns c = simp append_assoc (rw c.code-code.ensures at c.write.ensures.bytes)
