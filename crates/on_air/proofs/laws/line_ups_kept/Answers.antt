use Rattle.on_air.proofs.TurnsOn.{written_keeps}
use Rattle.on_air.proofs.laws.line_ups_kept.Goals as goal

pub returns : goal.returns
returns c = written_keeps
