use Rattle.mux_core.proofs.carry_laws.packets_join.Goals as goal
use Rattle.mux_core.proofs.RunLengths.{packets_join}

pub returns : goal.returns
returns c = packets_join
