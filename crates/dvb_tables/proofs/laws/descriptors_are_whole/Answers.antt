use Rattle.dvb_tables.proofs.WholeParts.{whole_descriptors}
use Rattle.dvb_tables.proofs.laws.descriptors_are_whole.Goals as goal

pub returns : goal.returns
returns c = whole_descriptors
