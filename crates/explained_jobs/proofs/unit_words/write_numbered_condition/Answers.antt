use Rattle.std.proofs.Common.{append_assoc}
use Rattle.explained_jobs.specs.UnitWords.{numbered_condition}
use Rattle.explained_jobs.proofs.unit_words.write_numbered_condition.Goals as goal

pub returns : goal.returns
unfolding numbered_condition
returns c = simp append_assoc c.write.ensures.bytes
