use Rattle.word_faults.proofs.NearWords.{hints}
use Rattle.word_faults.proofs.laws.hints_are_nearest.Goals as goal

pub returns : goal.returns
returns c = hints
