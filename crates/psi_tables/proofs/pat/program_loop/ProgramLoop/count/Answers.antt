use Rattle.std.proofs.Common.{◌/◌, ℕ, ap, sym, ◌∙◌}
use Rattle.psi_tables.specs.ProgramAssociation.{program_loop_of}
use Rattle.psi_tables.proofs.ProgramLoops.{length-programs_in}
use Rattle.psi_tables.proofs.pat.program_loop.ProgramLoop.count.Goals as goal

pub returns-clause-entries : goal.returns-clause-entries
unfolding program_loop_of
returns-clause-entries c = ap (λ (n : ℕ). n / 4) c.len.ensures.value ∙ sym (length-programs_in c.args.self.now.bytes.items)
