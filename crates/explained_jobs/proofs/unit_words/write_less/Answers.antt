use Rattle.std.proofs.Common.{append_assoc}
use Rattle.explained_jobs.specs.UnitWords.{less_words}
use Rattle.explained_jobs.proofs.unit_words.write_less.Goals as goal

pub returns : goal.returns
unfolding less_words
returns c = simp append_assoc c.write.ensures.bytes
