use Rattle.bit_fields.proofs.Fields.{fields_join}
use Rattle.bit_fields.proofs.laws.fields_join.Goals as goal

pub returns : goal.returns
returns c = fields_join
