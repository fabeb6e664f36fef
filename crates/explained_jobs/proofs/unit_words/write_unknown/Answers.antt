use Rattle.std.proofs.Common.{append_assoc}
use Rattle.explained_jobs.specs.UnitWords.{unknown_words}
use Rattle.explained_jobs.proofs.unit_words.write_unknown.Goals as goal

pub returns : goal.returns
unfolding unknown_words
returns c = simp append_assoc c.write.ensures.bytes
