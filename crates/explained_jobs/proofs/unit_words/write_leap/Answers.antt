use Rattle.std.proofs.Common.{append_assoc}
use Rattle.explained_jobs.specs.UnitWords.{leap_line}
use Rattle.explained_jobs.proofs.unit_words.write_leap.Goals as goal

pub returns : goal.returns
unfolding leap_line
returns c = simp append_assoc c.write.ensures.bytes
