use Rattle.std.proofs.Common.{append_assoc}
use Rattle.explained_jobs.specs.UnitWords.{switch_head}
use Rattle.explained_jobs.proofs.unit_words.write_switch_head.Goals as goal

pub returns : goal.returns
unfolding switch_head
returns c = simp append_assoc c.write.ensures.bytes
