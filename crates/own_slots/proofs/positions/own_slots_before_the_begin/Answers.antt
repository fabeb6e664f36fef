use Rattle.own_slots.proofs.positions.own_slots_before_the_begin.Goals as goal
use Rattle.own_slots.proofs.SwitchLemmas.{back_law}

pub returns : goal.returns
returns c = back_law
