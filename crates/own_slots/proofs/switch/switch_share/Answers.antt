use Rattle.own_slots.proofs.switch.switch_share.Goals as goal
use Rattle.own_slots.proofs.SwitchLemmas.{switch_spare_law}

pub returns : goal.returns
returns c = switch_spare_law
