use Rattle.own_slots.proofs.positions.own_slot_list.Goals as goal
use Rattle.own_slots.proofs.Counts.{list_law}

pub returns : goal.returns
returns c = list_law
