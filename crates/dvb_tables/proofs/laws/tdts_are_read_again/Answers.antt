use Rattle.dvb_tables.proofs.TablesWritten.{tdt_written}
use Rattle.dvb_tables.proofs.laws.tdts_are_read_again.Goals as goal

pub returns : goal.returns
returns c = tdt_written
