use Rattle.std.proofs.Common.{◌≡◌, ◌++◌, map}
use Rattle.psi_tables.specs.ProgramAssociation.{programs_of}
use Rattle.psi_tables.specs.declared.pat.programs.Program.{Program}
use Rattle.ts_watch.proofs.section_pids.push_programs.Given as goal

abbrev pub invariant-loop-program : goal.invariant-loop-program
invariant-loop-program l =
    l.pids.items ++ map (λ (p : Program). p.pid) (programs_of l.program-iterator)
    ≡ l.initial.pids.items ++ map (λ (p : Program). p.pid) (programs_of l.fn.programs)
