use Rattle.std.proofs.Common.{◌≡◌}
use Rattle.std.specs.List.{list_all}
use Rattle.psi_tables.specs.ProgramAssociation.{programs_of}
use Rattle.job_programs.specs.LaterPrograms.{is_kept}
use Rattle.job_programs.proofs.later_programs.are_kept.Given as goal

abbrev pub invariant-loop-program : goal.invariant-loop-program
invariant-loop-program l =
    list_all (is_kept l.options l.named) (programs_of l.program-iterator) ≡ list_all (is_kept l.options l.named) (programs_of l.fn.pat.programs)
