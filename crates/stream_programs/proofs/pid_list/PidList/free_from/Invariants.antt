use Rattle.std.proofs.Common.{◌≤◌}
use Rattle.stream_programs.specs.FreePids.{AreTaken}
use Rattle.stream_programs.proofs.pid_list.PidList.free_from.Given as goal

abbrev pub invariant-loop-pid : goal.invariant-loop-pid
invariant-loop-pid g l = (l.from ≤ l.pid) × AreTaken l.from l.pid l.self
