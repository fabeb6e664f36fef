use Rattle.own_slots.proofs.switch.switch_pace.Goals as goal
use Rattle.own_slots.proofs.SwitchLemmas.{switch_rate_law}

pub returns : goal.returns
returns c = switch_rate_law
