use Rattle.std.proofs.Common.{append_assoc}
use Rattle.plan_diagnosis.proofs.shape_conditions.write_slot.Goals as goal

pub returns : goal.returns
returns c = simp append_assoc c.write.ensures.bytes
