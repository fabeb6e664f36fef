use Rattle.std.proofs.Common.{append_assoc}
use Rattle.explained_jobs.specs.UnitWords.{ahead_words}
use Rattle.explained_jobs.proofs.unit_words.write_ahead.Goals as goal

pub returns : goal.returns
unfolding ahead_words
returns c = simp append_assoc c.write.ensures.bytes
