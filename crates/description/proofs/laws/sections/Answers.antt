use Rattle.description.proofs.SectionCounts.{sections_law}
use Rattle.description.proofs.laws.sections.Goals as goal

pub returns : goal.returns
returns c = sections_law
