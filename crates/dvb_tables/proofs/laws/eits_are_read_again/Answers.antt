use Rattle.dvb_tables.proofs.TablesWritten.{eit_written}
use Rattle.dvb_tables.proofs.laws.eits_are_read_again.Goals as goal

pub returns : goal.returns
returns c = eit_written
