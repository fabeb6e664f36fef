use Rattle.std.proofs.Common.{append_assoc}
use Rattle.explained_jobs.specs.JobWords.{record_words}
use Rattle.explained_jobs.proofs.fault_words.write_oversize.Goals as goal

pub returns : goal.returns
unfolding record_words
returns c = simp append_assoc c.write.ensures.bytes
