use Rattle.std.proofs.Common.{append_assoc}
use Rattle.plan_diagnosis.specs.ConditionLines.{size_words}
use Rattle.plan_diagnosis.proofs.buffer_conditions.write_sizes.Goals as goal

pub returns : goal.returns
unfolding size_words
returns c = simp append_assoc c.write.ensures.bytes
