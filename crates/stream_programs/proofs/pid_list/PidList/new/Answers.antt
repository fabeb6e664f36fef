use Rattle.stream_programs.proofs.PidLists.{marks_none}
use Rattle.stream_programs.proofs.pid_list.PidList.new.Goals as goal

pub invariant_of-result : goal.invariant_of-result
invariant_of-result g c = rw c.new.ensures.items marks_none
