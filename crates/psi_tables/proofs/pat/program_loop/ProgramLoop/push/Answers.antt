use Rattle.std.proofs.Common.{ℕ, List, ◌++◌, length, ap, ◌∙◌, arith}
use Rattle.psi_tables.specs.ProgramAssociation.{program_loop_of, programs_in}
use Rattle.psi_tables.proofs.ProgramLoops.{programs_in-push, length_program_bytes}
use Rattle.psi_tables.proofs.pat.program_loop.ProgramLoop.push.Goals as goal

pub append-requires : goal.append-requires
append-requires c =
    (omega arith, omega (arith, ap (length {A = ℕ}) c.to_bytes.ensures, length_program_bytes c.args.program, c.count.ensures.bytes, c.count.ensures.room))

pub returns-clause-ok : goal.returns-clause-ok
unfolding program_loop_of
returns-clause-ok c =
    ap programs_in (c.append.ensures.items ∙ ap (λ (x : List ℕ). c.args.self.now.bytes.items ++ x) c.to_bytes.ensures)
    ∙ programs_in-push c.args.self.now.bytes.items c.args.program c.args.self.now.whole (omega arith) c.requires
