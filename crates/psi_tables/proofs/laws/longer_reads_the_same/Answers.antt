use Rattle.psi_tables.proofs.SectionForms.{section_longer}
use Rattle.psi_tables.proofs.laws.longer_reads_the_same.Goals as goal

pub returns : goal.returns
returns c = section_longer
