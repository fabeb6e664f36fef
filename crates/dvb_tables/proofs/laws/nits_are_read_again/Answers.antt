use Rattle.dvb_tables.proofs.TablesWritten.{nit_written}
use Rattle.dvb_tables.proofs.laws.nits_are_read_again.Goals as goal

pub returns : goal.returns
returns c = nit_written
