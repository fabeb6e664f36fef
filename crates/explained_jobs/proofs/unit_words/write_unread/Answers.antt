use Rattle.std.proofs.Common.{append_assoc}
use Rattle.explained_jobs.specs.UnitWords.{unread_words}
use Rattle.explained_jobs.proofs.unit_words.write_unread.Goals as goal

pub returns : goal.returns
unfolding unread_words
returns c = simp append_assoc c.write.ensures.bytes
