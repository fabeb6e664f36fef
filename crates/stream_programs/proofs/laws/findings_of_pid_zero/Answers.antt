use Rattle.stream_programs.proofs.laws.findings_of_pid_zero.Goals as goal
use Rattle.stream_programs.proofs.TablesAlone.{pid_zero}

pub returns : goal.returns
returns c = pid_zero
