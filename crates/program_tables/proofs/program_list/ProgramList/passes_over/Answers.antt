use Rattle.std.proofs.Common.{arith}
use Rattle.program_tables.proofs.ProgramLists.{marks_one}
use Rattle.program_tables.proofs.program_list.ProgramList.passes_over.Goals as goal

pub returns-else-number-eq0 : goal.returns-else-number-eq0
returns-else-number-eq0 g c =
    rw (← c.self.view_is) (marks_one c.self.inside.numbers c.self.inside.programs.items c.args.number c.if-number-eq0.false (omega arith) c.self.invariant)
