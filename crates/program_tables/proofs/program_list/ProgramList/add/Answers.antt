use Rattle.std.proofs.Common.{arith}
use Rattle.program_tables.proofs.ProgramLists.{marks_after}
use Rattle.program_tables.proofs.program_list.ProgramList.add.Goals as goal

pub invariant_of-self-2 : goal.invariant_of-self-2
invariant_of-self-2 g c =
    rw c.in_ok-push.ensures.items (marks_after c.self.inside.numbers c.self.inside.programs.items c.args.program (omega arith) c.self.invariant)
