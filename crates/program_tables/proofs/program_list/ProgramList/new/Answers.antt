use Rattle.program_tables.proofs.ProgramLists.{marks_none}
use Rattle.program_tables.proofs.program_list.ProgramList.new.Goals as goal

pub invariant_of-result : goal.invariant_of-result
invariant_of-result g c = rw c.new.ensures.items marks_none
