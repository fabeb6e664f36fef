use Rattle.mux_core.proofs.carry_laws.runs_are_whole.Goals as goal
use Rattle.mux_core.proofs.RunLengths.{runs_are_whole}

pub returns : goal.returns
returns c = runs_are_whole
