use Rattle.own_slots.proofs.switch.switch_gaps.Goals as goal
use Rattle.own_slots.proofs.SwitchLemmas.{switch_gap_law}

pub returns : goal.returns
returns c = switch_gap_law
