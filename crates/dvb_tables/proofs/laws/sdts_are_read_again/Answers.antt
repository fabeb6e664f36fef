use Rattle.dvb_tables.proofs.TablesWritten.{sdt_written}
use Rattle.dvb_tables.proofs.laws.sdts_are_read_again.Goals as goal

pub returns : goal.returns
returns c = sdt_written
