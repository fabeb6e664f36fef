use Rattle.std.proofs.Common.{append_assoc}
use Rattle.plan_diagnosis.specs.ConditionLines.{count_words}
use Rattle.plan_diagnosis.proofs.slot_conditions.write_count.Goals as goal

pub returns : goal.returns
unfolding count_words
returns c = simp append_assoc c.write.ensures.bytes
