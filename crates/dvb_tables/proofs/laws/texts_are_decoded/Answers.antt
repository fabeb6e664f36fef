use Rattle.dvb_tables.proofs.TablesWritten.{texts_are_decoded}
use Rattle.dvb_tables.proofs.laws.texts_are_decoded.Goals as goal

pub returns : goal.returns
returns c = texts_are_decoded
