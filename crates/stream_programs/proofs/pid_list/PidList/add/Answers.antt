use Rattle.std.proofs.Common.{arith}
use Rattle.stream_programs.proofs.PidLists.{marks_after}
use Rattle.stream_programs.proofs.pid_list.PidList.add.Goals as goal

pub invariant_of-self-2 : goal.invariant_of-self-2
invariant_of-self-2 g c = rw c.in_ok-push.ensures.items (marks_after c.self.inside.taken c.self.inside.pids.items c.args.pid (omega arith) c.self.invariant)
