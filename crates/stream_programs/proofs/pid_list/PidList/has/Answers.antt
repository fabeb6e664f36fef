use Rattle.std.proofs.Common.{arith}
use Rattle.stream_programs.proofs.PidLists.{marks_one}
use Rattle.stream_programs.proofs.pid_list.PidList.has.Goals as goal

pub returns : goal.returns
returns g c = rw (← c.self.view_is) (marks_one c.self.inside.taken c.self.inside.pids.items c.args.pid (omega arith) c.self.invariant)
