use Rattle.std.proofs.Common.{append_assoc}
use Rattle.explained_jobs.specs.UnitWords.{begun_words}
use Rattle.explained_jobs.proofs.unit_words.write_begun.Goals as goal

pub returns : goal.returns
unfolding begun_words
returns c = simp append_assoc c.write.ensures.bytes
