use Rattle.line_ups.proofs.Kept.{kept_law}
use Rattle.line_ups.proofs.laws.kept.Goals as goal

pub returns : goal.returns
returns c = kept_law
