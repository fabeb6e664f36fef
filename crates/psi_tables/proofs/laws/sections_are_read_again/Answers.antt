use Rattle.psi_tables.specs.Laws.{SectionsAreReadAgain}
use Rattle.psi_tables.proofs.SectionWritten.{written}
use Rattle.psi_tables.proofs.laws.sections_are_read_again.Goals as goal

again : SectionsAreReadAgain
again s w = let a = written s w in record { section = a.section; read = a.read }

pub returns : goal.returns
returns c = again
