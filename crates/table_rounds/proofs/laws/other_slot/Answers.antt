use Rattle.table_rounds.proofs.CarouselSteps.{other_slot}
use Rattle.table_rounds.proofs.laws.other_slot.Goals as goal

pub returns : goal.returns
returns c = other_slot
