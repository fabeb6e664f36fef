use Rattle.std.proofs.Common.{◌≤◌}
use Rattle.stream_programs.specs.FreePids.{AreTaken}
use Rattle.stream_programs.proofs.free_pids.free_pid.Given as goal

abbrev pub invariant-loop-pid : goal.invariant-loop-pid
invariant-loop-pid l = (l.from ≤ l.pid) × AreTaken l.from l.pid l.taken
