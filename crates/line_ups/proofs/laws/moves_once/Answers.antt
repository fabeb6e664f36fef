use Rattle.line_ups.proofs.Kept.{moves_once}
use Rattle.line_ups.proofs.laws.moves_once.Goals as goal

pub returns : goal.returns
returns c = moves_once
