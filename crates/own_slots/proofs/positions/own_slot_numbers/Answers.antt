use Rattle.own_slots.proofs.positions.own_slot_numbers.Goals as goal
use Rattle.own_slots.proofs.PositionLemmas.{positions_law}

pub returns : goal.returns
returns c = positions_law
