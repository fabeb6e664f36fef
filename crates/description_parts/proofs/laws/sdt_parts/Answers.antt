use Rattle.description_parts.proofs.SdtParts.{sdt_parts_law}
use Rattle.description_parts.proofs.laws.sdt_parts.Goals as goal

pub returns : goal.returns
returns c = sdt_parts_law
