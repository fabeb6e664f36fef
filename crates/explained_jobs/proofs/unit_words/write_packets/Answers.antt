use Rattle.std.proofs.Common.{append_assoc}
use Rattle.explained_jobs.specs.UnitWords.{packets_words}
use Rattle.explained_jobs.proofs.unit_words.write_packets.Goals as goal

pub returns-in-Groups : goal.returns-in-Groups
unfolding packets_words
returns-in-Groups c = rw c.in-Groups.is (simp append_assoc c.write.ensures.bytes)

pub returns-in-Pace : goal.returns-in-Pace
unfolding packets_words
returns-in-Pace c = rw c.in-Pace.is (simp append_assoc c.write-in-Pace.ensures.bytes)
