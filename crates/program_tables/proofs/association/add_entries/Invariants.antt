use Rattle.std.proofs.Common.{◌≡◌}
use Rattle.psi_tables.specs.ProgramAssociation.{programs_of}
use Rattle.program_tables.specs.Association.{with_programs}
use Rattle.program_tables.proofs.association.add_entries.Given as goal

abbrev pub invariant-loop-program : goal.invariant-loop-program
invariant-loop-program g l =
    with_programs l.programs (programs_of l.program-iterator) ≡ with_programs l.fn.programs (programs_of l.fn.pat.programs)
