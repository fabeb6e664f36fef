use Rattle.std.proofs.Common.{◌≡◌}
use Rattle.std.specs.List.{list_all}
use Rattle.psi_tables.specs.ProgramAssociation.{programs_of}
use Rattle.program_tables.specs.Association.{is_said}
use Rattle.program_tables.proofs.association.are_said.Given as goal

abbrev pub invariant-loop-program : goal.invariant-loop-program
invariant-loop-program l =
    list_all (is_said l.named) (programs_of l.program-iterator) ≡ list_all (is_said l.named) (programs_of l.fn.pat.programs)
