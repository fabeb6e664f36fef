use Rattle.own_slots.proofs.PartLemmas.{part_law}
use Rattle.own_slots.proofs.parts.part_rises.Goals as goal

pub returns : goal.returns
returns c = part_law
