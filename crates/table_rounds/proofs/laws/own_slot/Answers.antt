use Rattle.table_rounds.proofs.CarouselSteps.{own_slot}
use Rattle.table_rounds.proofs.laws.own_slot.Goals as goal

pub returns : goal.returns
returns c = own_slot
