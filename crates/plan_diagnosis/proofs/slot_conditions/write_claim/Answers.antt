use Rattle.std.proofs.Common.{append_assoc}
use Rattle.plan_diagnosis.proofs.slot_conditions.write_claim.Goals as goal

pub returns : goal.returns
returns c = simp append_assoc c.write.ensures.bytes
