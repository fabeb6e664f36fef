use Rattle.std.proofs.Common.{◌≡◌, ◌++◌, map, take}
use Rattle.psi_tables.specs.ProgramAssociation.{program_loop_of}
use Rattle.description.specs.SectionBytes.{pat_entry}
use Rattle.description.proofs.program_association.push_programs.Given as goal

abbrev pub invariant-loop-program : goal.invariant-loop-program
invariant-loop-program l = program_loop_of l.entries ≡ program_loop_of l.initial.entries ++ map pat_entry (take l.program-index l.programs)
