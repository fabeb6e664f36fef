use Rattle.joined_parts.proofs.MovedFindings.{nothing_else}
use Rattle.joined_parts.proofs.laws.nothing_else_moves.Goals as goal

pub returns : goal.returns
returns c = nothing_else
