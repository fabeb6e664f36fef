use Rattle.std.proofs.Common.{◌≡◌, ◌++◌, drop}
use Rattle.stream_programs.proofs.pid_list.PidList.add_all.Given as goal

abbrev pub invariant-loop-pid : goal.invariant-loop-pid
invariant-loop-pid g l = l.fn.self ++ l.pids ≡ l.self ++ drop l.pid-index l.pids
