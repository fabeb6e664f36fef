use Rattle.std.proofs.Common.{◌∙◌}
use Rattle.mux_core.proofs.MuxStates.{waits}
use Rattle.mux_core.proofs.multiplexer.Mux.waiting.Goals as goal

pub returns : goal.returns
returns g c = λ h st. c.units_waiting.ensures ∙ waits h c.args.self.now c.args.stream st
