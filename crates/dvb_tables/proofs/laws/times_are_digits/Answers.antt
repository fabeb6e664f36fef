use Rattle.dvb_tables.proofs.TablesWritten.{times_are_digits}
use Rattle.dvb_tables.proofs.laws.times_are_digits.Goals as goal

pub returns : goal.returns
returns c = times_are_digits
