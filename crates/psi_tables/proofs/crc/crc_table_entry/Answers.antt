use Rattle.std.proofs.Common.{arith}
use Rattle.psi_tables.proofs.CrcTable.{entry_is}
use Rattle.psi_tables.proofs.crc.crc_table_entry.Goals as goal

pub returns : goal.returns
returns c = entry_is c.args.byte (omega arith)
