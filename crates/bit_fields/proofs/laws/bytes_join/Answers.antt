use Rattle.bit_fields.proofs.Fields.{bytes_join}
use Rattle.bit_fields.proofs.laws.bytes_join.Goals as goal

pub returns : goal.returns
returns c = bytes_join
