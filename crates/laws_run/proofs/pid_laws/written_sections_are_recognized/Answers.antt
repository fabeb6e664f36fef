use Rattle.laws_run.proofs.WrittenSections.{written_are_given}
use Rattle.laws_run.proofs.pid_laws.written_sections_are_recognized.Goals as goal

pub returns : goal.returns
returns c = written_are_given
