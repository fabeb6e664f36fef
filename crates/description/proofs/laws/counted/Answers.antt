use Rattle.description.proofs.Counted.{counted_law, count_law}
use Rattle.description.proofs.laws.counted.Goals as goal

pub returns-clause-changes : goal.returns-clause-changes
returns-clause-changes c = counted_law

pub returns-clause-number : goal.returns-clause-number
returns-clause-number c = count_law
