use Rattle.std.proofs.Common.{append_assoc}
use Rattle.plan_diagnosis.specs.ConditionLines.{seldom_words}
use Rattle.plan_diagnosis.proofs.buffer_conditions.write_seldom.Goals as goal

pub returns : goal.returns
unfolding seldom_words
returns c = simp append_assoc c.write.ensures.bytes
