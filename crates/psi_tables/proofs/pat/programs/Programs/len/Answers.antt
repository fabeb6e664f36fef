use Rattle.std.proofs.Common.{sym}
use Rattle.psi_tables.specs.ProgramAssociation.{programs_of}
use Rattle.psi_tables.proofs.ProgramLoops.{length-programs_in}
use Rattle.psi_tables.proofs.pat.programs.Programs.len.Goals as goal

pub returns : goal.returns
unfolding programs_of
returns c = sym (length-programs_in c.args.self.now.bytes.now)
