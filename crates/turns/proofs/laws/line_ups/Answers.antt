use Rattle.turns.proofs.LineUpRuns.{line_ups_law}
use Rattle.turns.proofs.laws.line_ups.Goals as goal

pub returns : goal.returns
returns c = line_ups_law
