use Rattle.std.proofs.Common.{◌≡◌, ◌+◌, ◌*◌, ◌++◌, length}
use Rattle.arrayvec.specs.ArrayVec.{array_vec_len}
use Rattle.psi_tables.specs.ProgramAssociation.{programs_bytes, programs_of}
use Rattle.psi_tables.proofs.pat.append_programs.Given as goal

abbrev pub invariant-loop-program : goal.invariant-loop-program
invariant-loop-program l =
    (l.out.items ++ programs_bytes (programs_of l.program-iterator) ≡ l.initial.out.items ++ programs_bytes (programs_of l.programs))
    × (array_vec_len l.out + 4 * length (programs_of l.program-iterator) ≡ array_vec_len l.initial.out + 4 * length (programs_of l.programs))
