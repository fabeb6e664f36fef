use Rattle.description_parts.proofs.NitParts.{nit_parts_law}
use Rattle.description_parts.proofs.laws.nit_parts.Goals as goal

pub returns : goal.returns
returns c = nit_parts_law
