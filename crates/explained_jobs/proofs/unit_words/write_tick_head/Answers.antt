use Rattle.std.proofs.Common.{append_assoc}
use Rattle.explained_jobs.specs.UnitWords.{tick_head}
use Rattle.explained_jobs.proofs.unit_words.write_tick_head.Goals as goal

pub returns : goal.returns
unfolding tick_head
returns c = simp append_assoc c.write.ensures.bytes
