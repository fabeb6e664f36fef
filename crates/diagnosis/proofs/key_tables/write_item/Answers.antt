use Rattle.std.proofs.Common.{append_assoc}
use Rattle.diagnosis.proofs.key_tables.write_item.Goals as goal

pub returns : goal.returns
returns c = simp append_assoc c.write.ensures.bytes
