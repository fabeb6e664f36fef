use Rattle.std.proofs.Common.{◌≡◌}
use Rattle.psi_tables.specs.ProgramAssociation.{programs_of}
use Rattle.ts_watch.specs.TableNames.{all_marked, program_keys}
use Rattle.ts_watch.proofs.table_names.mark_programs.Given as goal

abbrev pub invariant-loop-program : goal.invariant-loop-program
invariant-loop-program l =
    all_marked l.marks.entries l.section (program_keys (programs_of l.program-iterator))
    ≡ all_marked l.initial.marks.entries l.section (program_keys (programs_of l.fn.programs))
